use Rattle.std.proofs.Common.{◌∙◌}
use Rattle.tables.proofs.Finding.{placed_stands}
use Rattle.tables.proofs.elders.is_standing.Goals as goal

pub returns : goal.returns
returns c = c.is_some.ensures ∙ placed_stands c.args.rows.now c.args.entry c.place_of.result c.place_of.ensures
