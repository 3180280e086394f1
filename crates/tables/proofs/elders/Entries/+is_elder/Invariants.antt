use Rattle.tables.proofs.elders.Entries.+is_elder.Given as goal

-- the entry's number falls at each call
abbrev pub decreases-is_elder : goal.decreases-is_elder
decreases-is_elder l = l.entry
