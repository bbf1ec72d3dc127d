-- `keep`: the bytes before this one are read; the numbers that have begun are kept.
use mathlib.Core.List.{◌++◌}
use mathlib.Core.Path.{◌≡◌, sym, ◌∙◌}
use lib.ListN.{length}
use Rattle.listing.specs.Listing.{between}
use Rattle.text.proofs.Keeping.{behind, keeping_none, keeping_right, keeping_room, keeping_more, keeping_all}
use Rattle.text.proofs.lines.keep.Goals as goal
use Rattle.text.proofs.lines.keep.Goals.{Start}

-- The line is the word and the rest.
split : (c : Start) → c.args.line.now ≡ c.args.word.now ++ between (length c.args.word.now) (length c.args.line.now) c.args.line.now
split c = behind c.requires.2

pub loop-byte-init : goal.loop-byte-init
loop-byte-init c = keeping_none

pub unwrap-at-requires : goal.unwrap-at-requires
unwrap-at-requires c =
    keeping_right c.loop-byte.invariant c.args.line.now c.args.word.now (split (goal.at.unwrap-at-requires c).Start) c.loop-byte-test.true c.requires.2 _ c.read_byte.ensures

pub store-requires : goal.store-requires
store-requires c =
    keeping_room c.loop-byte.invariant c.args.line.now c.args.word.now (split (goal.at.store-requires c).Start) c.loop-byte-test.true (λ x e. sym c.unwrap-at.ensures ∙ c.read_byte.ensures x e) c.requires.0 c.requires.1

pub loop-byte-preserved : goal.loop-byte-preserved
loop-byte-preserved c =
    keeping_more c.loop-byte.invariant c.args.line.now c.args.word.now (split (goal.at.loop-byte-preserved c).Start) c.loop-byte-test.true (λ x e. sym c.unwrap-at.ensures ∙ c.read_byte.ensures x e) c.requires.0 c.requires.1 c.store.ensures c.store.auto.numbers

pub returns : goal.returns
returns c = keeping_all c.loop-byte.invariant c.args.line.now c.args.word.now (split (goal.at.returns c).Start) c.loop-byte-test.false
