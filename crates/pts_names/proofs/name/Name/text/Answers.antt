use Rattle.std.proofs.Common.{◌≡◌, ◌∙◌, subst, None}
use Rattle.pts_names.specs.Name.{name_fault}
use Rattle.pts_names.proofs.Sound.{name_is_sound}
use Rattle.pts_names.proofs.name.Name.text.Goals as goal

pub returns : goal.returns
returns c =
    let name = subst (λ text. name_fault text ≡ None) c.self.view_is c.self.invariant in
    let sound = name_is_sound c.args.self.now name in
    record { text = c.as_str.ensures.value ∙ c.self.view_is; name = name; some = sound.some; fits = sound.fits }
