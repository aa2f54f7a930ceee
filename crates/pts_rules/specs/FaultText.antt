-- How the condition that a node breaks is printed: its name and its number, with a blank before it.
use Rattle.std.specs.Prelude.{ℕ, List, ◌++◌, codes}
use Rattle.std.specs.Fmt.{decimal}
use Rattle.pts_rules.specs.declared.why.Why.{Why}
use Rattle.pts_rules.specs.declared.why.Why.TheVariants.{Kind, Place, Subject, Claim, Premise, SortOf, NoAxiom, NoRule, NoEntry, NoStep, Conclusion}

abbrev pub why_text : Why → List ℕ
why_text (Kind k) = codes "Kind " ++ decimal k
why_text (Place k) = codes "Place " ++ decimal k
why_text Subject = codes "Subject"
why_text Claim = codes "Claim"
why_text (Premise k) = codes "Premise " ++ decimal k
why_text (SortOf k) = codes "SortOf " ++ decimal k
why_text NoAxiom = codes "NoAxiom"
why_text NoRule = codes "NoRule"
why_text NoEntry = codes "NoEntry"
why_text NoStep = codes "NoStep"
why_text Conclusion = codes "Conclusion"
