use Rattle.std.proofs.Common.{sym, ◌∙◌, rules}
use Rattle.std.proofs.lemmas.Iterator.{YieldsList-from_slice}
use Rattle.std.proofs.lemmas.Iterator.Search.{position_from_yields_List}
use borrow.Author.Tests.{tests}
use Rattle.rules.specs.Calls.{stops_publishing_in}
use Rattle.tables.proofs.Searching.{at_place, at_no_place}
use Rattle.tables.proofs.searches.Search.elder_in_the_way.Goals as goal

pub returns-in_err-place : goal.returns-in_err-place
returns-in_err-place g c =
    let search_for = c.args.self.now in
    let stops = stops_publishing_in (g.K.Kind.rules search_for.kind.now) search_for.entries.rows.now search_for.lines.now c.args.entry in
    c.from_residual.ensures ∙ at_no_place stops search_for.lines.now (sym c.in_err-place.was ∙ position_from_yields_List stops _ _ c.position.result c.position.ensures.ran (YieldsList-from_slice search_for.lines.now cc) (λ x b q k. search (rules, tests)))

pub returns : goal.returns
returns g c =
    let search_for = c.args.self.now in
    let stops = stops_publishing_in (g.K.Kind.rules search_for.kind.now) search_for.entries.rows.now search_for.lines.now c.args.entry in
    at_place stops search_for.lines.now c.in_ok-place.place _ (sym c.in_ok-place.was ∙ position_from_yields_List stops _ _ c.position.result c.position.ensures.ran (YieldsList-from_slice search_for.lines.now cc) (λ x b q k. search (rules, tests)))
