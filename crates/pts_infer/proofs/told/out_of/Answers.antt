use Rattle.pts_infer.proofs.told.out_of.Goals as goal

pub returns-in-Part : goal.returns-in-Part
returns-in-Part c = λ ss. rw c.in-Part.is (c.into_part.ensures ss)

pub returns-in-Under : goal.returns-in-Under
returns-in-Under c = λ ss. rw c.in-Under.is (c.under_binder.ensures ss)
