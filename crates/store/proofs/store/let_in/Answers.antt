-- `let_in`: the place of c is looked up in part k, the later entries go up and c is stored, and the starts are raised.
use mathlib.Core.List.{List}
use mathlib.Core.Path.{◌≡◌, refl, sym, ap, ◌∙◌, subst}
use Prim.Native.Nat.{ℕ, ◌+◌, ◌-◌, ◌≤◌}
use native.Mathlib.Omega.{arith}
use lib.ListN.{set}
use Rattle.pattern.specs.Places.{at}
use Rattle.listing.specs.Held.{put}
use Rattle.listing.specs.Listing.{between, part}
use Rattle.listing.proofs.Between.{between_length}
use Rattle.listing.proofs.Puts.{put_front}
use Rattle.store.specs.Store.{Cut}
use Rattle.store.proofs.store.let_in.Goals as goal
use Rattle.store.proofs.store.let_in.Goals.{After-below}

-- The place, once it has been found.
module _ (c : After-below) where
  abbrev starts : List ℕ
  starts = c.args.listed.now.starts.now

  abbrev entries : List ℕ
  entries = c.args.listed.now.entries.now

  abbrev k : ℕ
  k = c.args.k

  begins : c.wide.result ≡ at starts k
  begins = c.wide.ensures

  cut : Cut c.args.c c.below.result (part starts entries k)
  cut = rw c.view.ensures.0 at (rw c.view.ensures.1 at (rw c.part.ensures at c.below.ensures))

  upto : at starts k + c.below.result ≤ at starts (k + 1)
  upto =
      let W = c.requires.within.3 in
      omega (arith, cut.within, between_length (at starts k) (at starts (k + 1)) entries W.in_list, W.no_fall)

pub returns : goal.returns
returns c =
    let after_below = (goal.at.returns c).After-below in
    let a = c.args in
    let q : ℕ = c.wide.result + c.below.result in
    let x : q - at (starts after_below) (k after_below) ≡ c.below.result = omega (arith, begins after_below) in
    let n : q + (a.i + 1) ≡ q + a.i + 1 = omega arith in (
      record { starts = refl; entries = refl },
      refl,
      record {
        from = omega (arith, begins after_below);
        cut = subst (λ (n : ℕ). Cut a.c n (part (starts after_below) (entries after_below) (k after_below))) (sym x) (cut after_below);
        entries_now =
            ap (λ (l : List ℕ). set l (q + a.i) a.c) (c.shift.ensures ∙ ap (λ (n : ℕ). put n (between q a.rest.end (entries after_below)) (entries after_below)) n)
            ∙ put_front (q + a.i) (between q a.rest.end (entries after_below)) (entries after_below) a.c (omega (arith, begins after_below, upto after_below, c.requires));
        raised = c.raise.ensures;
      },
    )
