-- The entry of a front that an entry of the program stands for.
use Rattle.std.specs.Prelude.{List, map}
use Rattle.std.specs.Option.{option_map}
use Rattle.pts_names.specs.Name.{Name}
use Rattle.pts_terms.specs.Seen.{named}
use Rattle.pts_ctx.specs.declared.entry.Entry.{Entry}
use Rattle.pts_ctx.specs.Front.{Global}

abbrev pub global_of : Entry → Global Name
global_of e = record { name = e.name; body = option_map named e.body; type = named e.ty }

abbrev pub globals_of : List Entry → List (Global Name)
globals_of es = map global_of es
