-- The words of the commands.
use Rattle.std.specs.Prelude.{codes, if◌then◌else◌, Option, Some, None, option_map}
use Rattle.std.specs.Option.{option_or}
use Rattle.pts_names.specs.Name.{Name, same_name}
use Rattle.pts_lines.specs.declared.command.Alone.{Alone}
use Rattle.pts_lines.specs.declared.command.Alone.TheVariants.{Look, Commit, Goals, Qed, Abort, Undo, Discard, Draft}
use Rattle.pts_lines.specs.declared.command.Named.{Named}
use Rattle.pts_lines.specs.declared.command.Named.TheVariants.{Load, Accept, Intro}
use Rattle.pts_lines.specs.declared.command.Placed.{Placed}
use Rattle.pts_lines.specs.declared.command.Placed.TheVariants.{Unfold, Show}
use Rattle.pts_lines.specs.declared.command.Asked.{Asked}
use Rattle.pts_lines.specs.declared.command.Asked.TheVariants.{Exact, Apply, Convert, Infer, Reduce}
use Rattle.pts_lines.specs.declared.command.WithType.{WithType}
use Rattle.pts_lines.specs.declared.command.WithType.TheVariants.{Assume, Theorem, Cut}
use Rattle.pts_lines.specs.declared.command.Declaring.{Declaring}
use Rattle.pts_lines.specs.declared.command.Declaring.TheVariants.{Parameter, Assume as Assumption, Define as Definition}
use Rattle.pts_lines.specs.declared.command.Command.{Command}
use Rattle.pts_lines.specs.declared.command.Command.TheVariants.{OfNothing, OfPlain, OfName, OfTerm, OfType, Rename, Budget, Equal, Define, Instance}

-- Words that stand alone.
abbrev pub session : Name → Option Alone
session w =
    if same_name w (codes "look") then Some Look
    else (if same_name w (codes "commit") then Some Commit
    else (if same_name w (codes "undo") then Some Undo
    else (if same_name w (codes "discard") then Some Discard
    else (if same_name w (codes "draft") then Some Draft
    else None))))

abbrev pub proof : Name → Option Alone
proof w =
    if same_name w (codes "goals") then Some Goals
    else (if same_name w (codes "qed") then Some Qed
    else (if same_name w (codes "abort") then Some Abort
    else None))

-- Words before a plain name, before any name, before a term, and before a plain name with its type.
abbrev pub named : Name → Option Named
named w =
    if same_name w (codes "load") then Some Load
    else (if same_name w (codes "accept") then Some Accept
    else (if same_name w (codes "intro") then Some Intro
    else None))

abbrev pub placed : Name → Option Placed
placed w =
    if same_name w (codes "unfold") then Some Unfold
    else (if same_name w (codes "show") then Some Show
    else None)

abbrev pub asked : Name → Option Asked
asked w =
    if same_name w (codes "exact") then Some Exact
    else (if same_name w (codes "apply") then Some Apply
    else (if same_name w (codes "convert") then Some Convert
    else (if same_name w (codes "infer") then Some Infer
    else (if same_name w (codes "reduce") then Some Reduce
    else None))))

abbrev pub typed : Name → Option WithType
typed w =
    if same_name w (codes "assume") then Some Assume
    else (if same_name w (codes "theorem") then Some Theorem
    else (if same_name w (codes "cut") then Some Cut
    else None))

-- The other words.
abbrev pub other : Name → Option Command
other w =
    if same_name w (codes "rename") then Some Rename
    else (if same_name w (codes "budget") then Some Budget
    else (if same_name w (codes "equal") then Some Equal
    else (if same_name w (codes "define") then Some Define
    else (if same_name w (codes "instance") then Some Instance
    else None))))

-- The command that a word is.
unfoldable pub command : Name → Option Command
command w =
    option_or (option_map OfNothing (option_or (session w) (proof w)))
    (option_or (option_map OfPlain (named w))
    (option_or (option_map OfName (placed w))
    (option_or (option_map OfTerm (asked w))
    (option_or (option_map OfType (typed w))
    (other w)))))

-- The words of a module file, which has parameters, and what stands after them: the same as after `assume` and `define`.
abbrev pub declared : Name → Option Declaring
declared w =
    if same_name w (codes "parameter") then Some Parameter
    else (if same_name w (codes "assume") then Some Assumption
    else (if same_name w (codes "define") then Some Definition
    else None))

abbrev pub rest_of : Declaring → Command
rest_of Parameter = OfType Assume
rest_of Assumption = OfType Assume
rest_of Definition = Define

abbrev pub declaring : Name → Option Command
declaring w = option_map rest_of (declared w)
