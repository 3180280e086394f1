use Rattle.tables.specs.Tables.{records_of}
use Rattle.register.proofs.Rows.{one_ended}
use Rattle.register.proofs.Register.commit.Goals as goal

pub invariant_of-self-clause-in_order : goal.invariant_of-self-clause-in_order
invariant_of-self-clause-in_order g c = let s = c.args.self.now in (one_ended s.begun (records_of s.rows) _ s.in_order s.numbered c.args.entry c.requires c.end-2.ensures).in_order

pub invariant_of-self-clause-numbered : goal.invariant_of-self-clause-numbered
invariant_of-self-clause-numbered g c = let s = c.args.self.now in (one_ended s.begun (records_of s.rows) _ s.in_order s.numbered c.args.entry c.requires c.end-2.ensures).numbered
