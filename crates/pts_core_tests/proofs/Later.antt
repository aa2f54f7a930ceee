-- What was examined over a front of a core is over each later one.
use Rattle.std.proofs.Common.{◌≡◌, List, [], ◌∷◌, ◌++◌, Option, sym, ap, ◌∙◌, subst}
use Rattle.std.proofs.lemmas.List.{append_assoc, append-nil}
use Rattle.pts_names.specs.Name.{Name}
use Rattle.pts_ctx.specs.Front.{Global}
use Rattle.pts_ctx.specs.Seen.{IsPrefix}
use Rattle.pts_core.specs.declared.reply.Reply.{Reply}
use Rattle.pts_core.specs.declared.reply.Reply.TheVariants as reply
use Rattle.pts_core.specs.Replies.{LabelledFront}
use Rattle.pts_core.specs.Histories.{Past, left_by, marks, after}
use Rattle.pts_core.specs.Cores.{SeenCore, SeenExamined, IsOver, MaySubmit, front_of}

longer : {A : Type 0} (xs ys more : List A) → IsPrefix xs ys → IsPrefix xs (ys ++ more)
longer xs ys more p = (p.0 ++ more, sym (append_assoc xs p.0 more) ∙ ap (λ zs. zs ++ more) p.1)

over_left : (x : SeenExamined) (F : LabelledFront) (r : Reply) (es : List (Global Name)) (l : Option Name) → IsOver x F → IsOver x (left_by F r es l)
over_left x F (reply.Committed n m) es l o = (longer _ _ es o.0, longer _ _ (marks l _) o.1)
over_left x F (reply.Seen n) es l o = o
over_left x F (reply.Faulty y n why) es l o = o
over_left x F (reply.Clash y n) es l o = o
over_left x F (reply.Loaded y n) es l o = o
over_left x F (reply.ContextFull n) es l o = o

-- Between C and R a core made room, and the event took it to D.
pub may_still : (x : SeenExamined) (C R D : SeenCore) (e : Past) → MaySubmit x C → R.system ≡ C.system → R.entries ≡ C.entries → R.labels ≡ C.labels → D.system ≡ R.system → front_of D ≡ after (front_of R) e → MaySubmit x D
may_still x C R D e m s es ls t f =
    let o : IsOver x (front_of R) = (subst (λ zs. IsPrefix x.offer.front.entries zs) (sym es) m.1.0, subst (λ zs. IsPrefix x.offer.front.labels zs) (sym ls) m.1.1) in
    (m.0 ∙ sym s ∙ sym t, subst (λ F. IsOver x F) (sym f) (over_left x (front_of R) e.reply e.entries e.label o))
