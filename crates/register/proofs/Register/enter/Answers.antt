use Rattle.tables.specs.Tables.{records_of}
use Rattle.register.proofs.Rows.{one_begun}
use Rattle.register.proofs.Register.enter.Goals as goal

pub invariant_of-self-clause-in_order : goal.invariant_of-self-clause-in_order
invariant_of-self-clause-in_order g c = let s = c.args.self.now in (one_begun s.begun (records_of s.rows) _ s.in_order s.numbered c.args.parent c.requires.placed c.push.ensures).in_order

pub invariant_of-self-clause-numbered : goal.invariant_of-self-clause-numbered
invariant_of-self-clause-numbered g c = let s = c.args.self.now in (one_begun s.begun (records_of s.rows) _ s.in_order s.numbered c.args.parent c.requires.placed c.push.ensures).numbered
