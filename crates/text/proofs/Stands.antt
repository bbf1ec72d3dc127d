-- What is spelt, by how a reader stands. Rests on specs/Spelling.antt.
use mathlib.Core.List.{List}
use mathlib.Core.Path.{◌≡◌, refl}
use Prim.Native.Nat.{ℕ}
use lib.ListN.{length}
use Rattle.std.specs.Prelude.{Some, None}
use Rattle.text.specs.Spelling.{Spelt, empty, gap, inside, wrong, stand}
use Rattle.text.specs.declared.lines.Stand.TheVariants.{Word, Gap, Inside}

pub at_word : (x : Spelt) → Some Word ≡ stand x → x ≡ empty
at_word empty e = refl
at_word (gap l) e = cc
at_word (inside l v) e = cc
at_word wrong e = cc

pub at_gap : {n : ℕ} (x : Spelt) → Some (Gap n) ≡ stand x → (l : List ℕ) × (x ≡ gap l) × (n ≡ length l)
at_gap empty e = cc
at_gap (gap l) e = (l, refl, (cc))
at_gap (inside l v) e = cc
at_gap wrong e = cc

pub at_inside : {n v : ℕ} (x : Spelt) → Some (Inside n v) ≡ stand x → (l : List ℕ) × (x ≡ inside l v) × (n ≡ length l)
at_inside empty e = cc
at_inside (gap l) e = cc
at_inside (inside l v) e = (l, (cc), (cc))
at_inside wrong e = cc

pub at_none : (x : Spelt) → None ≡ stand x → x ≡ wrong
at_none empty e = cc
at_none (gap l) e = cc
at_none (inside l v) e = cc
at_none wrong e = refl
