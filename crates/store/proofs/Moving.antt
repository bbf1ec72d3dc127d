-- A stretch of a list that is copied to another place in it. Rests on `listing`.
use mathlib.Core.List.{List, ◌++◌, append_assoc}
use mathlib.Core.Path.{◌≡◌, sym, ap, ◌∙◌}
use Prim.Native.Nat.{ℕ, ◌+◌, ◌-◌, ◌≤◌}
use lib.ListN.{length, take, drop}
use lib.Seq.{drop-drop}
use Rattle.listing.specs.Held.{put}
use Rattle.listing.specs.Listing.{between}
use Rattle.listing.proofs.Between.{between_length}
use Rattle.std.specs.List.{copy_within}

pub moved : (l : List ℕ) (from to into : ℕ) → to ≤ length l → copy_within l from to into ≡ put into (between from to l) l
moved l from to into h =
    let stretch = between from to l in
    append_assoc (take into l) stretch (drop (into + (to - from)) l)
    ∙ ap (λ (t : List ℕ). take into l ++ (stretch ++ t))
    (ap (λ (n : ℕ). drop (into + n) l) (sym (between_length from to l h)) ∙ sym (drop-drop (length stretch) into l))
