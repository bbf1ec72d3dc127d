-- `parts_rise`: what the ends and the counts say.
use mathlib.Core.Path.{◌≡◌, sym, ap, ◌∙◌}
use Rattle.pattern.specs.Places.{at}
use Rattle.pattern.specs.Series.{tally}
use Rattle.listing.specs.Falls.{fall}
use Rattle.listing.proofs.Answers.{told_yes, told_no, refuted, shown}
use Rattle.listing.proofs.Falling.{counts_rise, rise_counts, rise_ends}
use Rattle.listing.proofs.listing.Listed.parts_rise.Goals as goal
use Rattle.listing.proofs.listing.Listed.parts_rise.Goals.{After-falls_at_starts}

pub returns-then-not-ends_below : goal.returns-then-not-ends_below
returns-then-not-ends_below c =
    told_no (λ p. refuted c.ends_below.ensures c.if-not-ends_below.true (rise_ends c.requires.0 c.requires.1 p))

-- The falls that were counted are those before the total.
module _ (c : After-falls_at_starts) where
  counted : c.wide-2.result ≡ tally (fall c.args.self.entries.now) (at c.args.self.starts.now c.args.m)
  counted = c.wide-2.ensures ∙ c.falls.ensures ∙ ap (tally (fall c.args.self.entries.now)) c.wide.ensures

pub returns-then-wide-falls_at_starts : goal.returns-then-wide-falls_at_starts
returns-then-wide-falls_at_starts c =
    told_no (λ p. c.if-wide-falls_at_starts.true (counted (goal.at.returns-then-wide-falls_at_starts c).After-falls_at_starts ∙ rise_counts c.requires.0 c.requires.1 p ∙ sym c.falls_at_starts.ensures))

pub returns : goal.returns
returns c =
    told_yes (counts_rise c.requires.0 c.requires.1 (shown c.ends_below.ensures c.if-not-ends_below.false)
    (sym (counted (goal.at.returns c).After-falls_at_starts) ∙ c.if-wide-falls_at_starts.false ∙ c.falls_at_starts.ensures))
