-- What the readers answer.
use Rattle.std.specs.Prelude.{◌≡◌, Option, Some, None, Result, Ok, Err}
use Rattle.pts_spec.specs.declared.fault.KeyFault.{KeyFault}
use Rattle.pts_spec.specs.declared.fault.KeyFault.TheVariants.{Shape, Memory}
use Rattle.pts_spec.specs.declared.fault.SpecFault.{SpecFault}
use Rattle.pts_spec.specs.declared.fault.SpecFault.TheVariants.{NotToml, Shape as Misshapen, System, Memory as NoMemory}

-- A call answers what a value is read as, seen so, unless memory is wanting.
abbrev pub FitsAs : {A B : Type 0} → (A → B) → Result A KeyFault → Option B → Type 0
FitsAs seen (Ok a) said = said ≡ Some (seen a)
FitsAs seen (Err Shape) said = said ≡ None
FitsAs seen (Err Memory) said = Unit {0}

abbrev pub FitsShape : {A : Type 0} → Result A KeyFault → Option A → Type 0
FitsShape result said = FitsAs (λ a. a) result said

-- A call answers what is said, its value being seen so, unless memory is wanting.
abbrev pub AnswersAs : {A B : Type 0} → (A → B) → Result A SpecFault → Result B SpecFault → Type 0
AnswersAs seen (Ok a) said = said ≡ Ok (seen a)
AnswersAs seen (Err NoMemory) said = Unit {0}
AnswersAs seen (Err NotToml) said = said ≡ Err NotToml
AnswersAs seen (Err (Misshapen key)) said = said ≡ Err (Misshapen key)
AnswersAs seen (Err (System e)) said = said ≡ Err (System e)

abbrev pub Answers : {A : Type 0} → Result A SpecFault → Result A SpecFault → Type 0
Answers result said = AnswersAs (λ a. a) result said
