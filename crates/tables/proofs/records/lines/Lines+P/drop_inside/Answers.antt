use Rattle.std.proofs.Common.{not, take, rules}
use Rattle.rules.specs.declared.lines.Line.{Line}
use Rattle.rules.specs.Entries.{is_own_or_elder}
use Rattle.tables.proofs.Closing.{sifted, closed_up}
use Rattle.tables.proofs.records.lines.Lines+P.drop_inside.Goals as goal

pub returns : goal.returns
returns g c =
    let test = λ (line : Line g.row.P.Denot). not (is_own_or_elder c.args.entries.now.rows.now line.holder c.args.entry) in
    let kept = c.close_up-left in
    closed_up c.args.self.now.places.now kept.new.items c.args.self.now.filled kept.result c.args.self.now.within kept.ensures.bound kept.ensures.size
    (sifted _ test (take c.args.self.now.filled c.args.self.now.places.now) (λ front x more b is h. search rules) (take kept.result kept.new.items) kept.ensures.closed)
