use Rattle.std.proofs.Common.{subst, ◌≡◌, Some}
use Rattle.pts_names.specs.Name.{name_fault, UnlessMemory}
use Rattle.pts_module_file.proofs.Reading.{unread}
use Rattle.pts_module_file.proofs.item.short_name.Goals as goal

pub returns-in_default-fault : goal.returns-in_default-fault
returns-in_default-fault c = unread c.args.bytes.now c.in-Err.fault c.in_default-fault.not-Memory (subst (λ x. UnlessMemory c.in-Err.fault (name_fault x ≡ Some c.in-Err.fault)) c.in-Some.ensures.1 c.in-Err.ensures.refused)
