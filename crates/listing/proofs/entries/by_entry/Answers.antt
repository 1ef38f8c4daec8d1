-- `listing::entries::by_entry` meets its contract. Assumes nothing.
use mathlib.Core.Path.{sym, ◌∙◌}
use Rattle.listing.proofs.Entered.{entry_empty, entry-view, entry_other}
use Rattle.listing.proofs.entries.by_entry.Goals as goal

pub returns-then-entry-eq0 : goal.returns-then-entry-eq0
returns-then-entry-eq0 c = let a = c.args in entry_empty a.x a.guess a.entry.known a.entry.possible a.entry.sets c.if-entry-eq0.true

pub returns-then-found-guess : goal.returns-then-found-guess
returns-then-found-guess c = let a = c.args in entry-view a.x a.guess a.entry.known a.entry.possible a.entry.sets c.if-entry-eq0.false (sym c.found.ensures ∙ c.if-found-guess.true)

pub returns : goal.returns
returns c = let a = c.args in entry_other a.x a.guess a.entry.known a.entry.possible a.entry.sets c.if-entry-eq0.false (λ e. c.if-found-guess.false (c.found.ensures ∙ e))
