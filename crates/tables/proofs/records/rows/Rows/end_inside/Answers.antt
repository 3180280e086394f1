use Rattle.std.proofs.Common.{take, rules}
use Rattle.tables.proofs.Closing.{closed_up}
use Rattle.tables.proofs.Outside.{stay_outside}
use Rattle.tables.proofs.records.rows.Rows.end_inside.Goals as goal

pub returns : goal.returns
returns c =
    let kept = c.close_up-left in
    closed_up c.args.self.now.places.now kept.new.items c.args.self.now.filled kept.result c.args.self.now.within kept.ensures.bound kept.ensures.size
    (stay_outside (take c.args.self.now.filled c.args.self.now.places.now) c.requires c.args.entry _ (λ kept x b h. search rules) (take kept.result kept.new.items) kept.ensures.closed)
