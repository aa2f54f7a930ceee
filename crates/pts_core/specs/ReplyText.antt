-- How the reply to an event is printed: its name and its values, with a blank before each. A refusal has `refused` before its name.
use Rattle.std.specs.Prelude.{ℕ, List, ◌++◌, codes}
use Rattle.std.specs.Fmt.{decimal}
use Rattle.pts_rules.specs.FaultText.{why_text}
use Rattle.pts_core.specs.declared.reply.Reply.{Reply}
use Rattle.pts_core.specs.declared.reply.Reply.TheVariants.{Seen, Committed, Faulty, Clash, Loaded, ContextFull}

abbrev pub reply_text : Reply → List ℕ
reply_text (Seen n) = codes "seen " ++ decimal n
reply_text (Committed n m) = codes "committed " ++ (decimal n ++ (codes " " ++ decimal m))
reply_text (Faulty x k why) = codes "refused Faulty " ++ (x ++ (codes " " ++ (decimal k ++ (codes " " ++ why_text why))))
reply_text (Clash x p) = codes "refused Clash " ++ (x ++ (codes " " ++ decimal p))
reply_text (Loaded l p) = codes "refused Loaded " ++ (l ++ (codes " " ++ decimal p))
reply_text (ContextFull n) = codes "refused ContextFull " ++ decimal n
