use Rattle.tables.specs.Tables.{records_of}
use Rattle.register.proofs.Rows.{all_inside_ended}
use Rattle.register.proofs.Register.drop_inside.Goals as goal

pub invariant_of-self-clause-in_order : goal.invariant_of-self-clause-in_order
invariant_of-self-clause-in_order g c = let s = c.args.self.now in (all_inside_ended s.begun (records_of s.rows) _ s.in_order s.numbered c.args.entry c.end_inside.ensures).in_order

pub invariant_of-self-clause-numbered : goal.invariant_of-self-clause-numbered
invariant_of-self-clause-numbered g c = let s = c.args.self.now in (all_inside_ended s.begun (records_of s.rows) _ s.in_order s.numbered c.args.entry c.end_inside.ensures).numbered
