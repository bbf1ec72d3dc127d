-- The pass that lets a number into some parts of a listing, from the last of them to the first: where it begins, one part, and
-- what it comes to. Rests on Spreads.antt, Fillings.antt and `listing`.
use mathlib.Core.List.{List, [], ◌∷◌, ◌++◌}
use mathlib.Core.Path.{◌≡◌, refl, sym, ap, ap₂, ◌∙◌, subst}
use Prim.Native.Nat.{ℕ, ◌+◌, ◌-◌, ◌≤◌, ◌<◌}
use native.Mathlib.Decide.{dec_lt}
use native.Mathlib.Numerals.{add-one}
use native.Mathlib.Omega.{arith}
use lib.ListN.{length, take, drop, set, length-drop, take-append-drop}
use lib.Seq.{length-take-le, get_or-take, take-take, take_at, drop_at, drop-cons, drop-drop, drop-length}
use Rattle.pattern.specs.Flat.{flat, start_of, starts_of}
use Rattle.pattern.specs.Pattern.{column, Entry}
use Rattle.pattern.specs.Places.{at}
use Rattle.pattern.specs.Rising.{Rising}
use Rattle.pattern.proofs.Clearing.{old_column}
use Rattle.pattern.proofs.Each.{length_each, each_at}
use Rattle.pattern.proofs.Rises.{rising_less}
use Rattle.pattern.proofs.Tallies.{tally_same, flat_length}
use Rattle.pattern.proofs.Turning.{Columns}
use Rattle.listing.specs.Held.{over, put, Held}
use Rattle.listing.specs.Listing.{between, part, parts, Within, Good}
use Rattle.listing.specs.Walk.{Kept}
use Rattle.listing.proofs.Between.{between_length, between_same}
use Rattle.listing.proofs.Holding.{over_is}
use Rattle.listing.proofs.Listings.{starts_rise, part_is, parts_start, good_columns, good_within}
use Rattle.listing.proofs.Puts.{put_none, put_before, put_put, put_is_over, put_length}
use Rattle.listing.proofs.Turns.{kept_all, kept_on}
use Rattle.store.specs.Store.{joined, spread, Cut, LetIn}
use Rattle.store.proofs.Fillings.{parts_flat}
use Rattle.store.proofs.Joins.{joined_in, joined_length, rising_drop}
use Rattle.store.proofs.Spreads.{spread_columns, spread_total, start_more, flat_more_in}

-- The listing with `c` in all of the parts `rows` but the first `i`.
abbrev pub partly : (m c : ℕ) (rows starts entries : List ℕ) (i : ℕ) → List (List ℕ)
partly m c rows starts entries i = spread m c (drop i rows) (parts m starts entries)

-- It stands in the lists, `i` places too high: its entries from place `end` on, and its starts past start `top`. What is
-- before is still to be moved, and no part from `top` on is left to be joined.
pub record Spreading (m c : ℕ) (rows starts entries starts' entries' : List ℕ) (end top i : ℕ) : Type 0 where
  pub upto : i ≤ length rows
  pub in_size : top ≤ m
  pub left : (j : ℕ) → j < i → at rows j < top
  pub from : at starts top ≤ end
  pub to : end ≤ at starts m
  pub same : (k : ℕ) → k < top → column (partly m c rows starts entries i) k ≡ column (parts m starts entries) k
  pub before : take end (flat (partly m c rows starts entries i)) ≡ take end entries
  pub entries_now : entries' ≡ put (end + i) (drop end (flat (partly m c rows starts entries i))) entries
  pub entries_long : length entries' ≡ length entries
  pub low : (k : ℕ) → k ≤ top → at starts' k ≡ at starts k
  pub high : (k : ℕ) → top < k → k ≤ m → at starts' k ≡ start_of (partly m c rows starts entries i) k + i
  pub kept : Kept (m + 1) starts starts'

module _ {m c : ℕ} {rows starts entries : List ℕ} (G : Good m starts entries) (c_in : c < m) (R : Rising m rows)
    (none : (k : ℕ) → ¬ Entry (parts m starts entries) c k) (fits : at starts m + length rows ≤ length entries) where
  abbrev P : List (List ℕ)
  P = parts m starts entries

  abbrev Q : ℕ → List (List ℕ)
  Q = partly m c rows starts entries

  columns : (i : ℕ) → Columns m (Q i)
  columns i = spread_columns (good_columns G) c c_in (drop i rows) (rising_drop i R)

  start_is : (k : ℕ) → k ≤ m → start_of P k ≡ at starts k
  start_is k h = parts_start m starts entries G.room G.formed.starts_right k h

  total : (i : ℕ) → i ≤ length rows → start_of (Q i) m + i ≡ at starts m + length rows
  total i h = omega (arith, spread_total (good_columns G) c c_in none (drop i rows) (rising_drop i R), start_is m (omega arith), length-drop i rows)

  flat_many : (i : ℕ) → length (flat (Q i)) ≡ start_of (Q i) m
  flat_many i = flat_length (Q i) ∙ ap (start_of (Q i)) (columns i).size

  -- No part has been joined.
  pub spreading_none : (i end : ℕ) → i ≡ length rows → end ≡ at starts m → Spreading m c rows starts entries starts entries end m i
  spreading_none i end ei ee =
      record {
        upto = omega arith;
        in_size = omega arith;
        left = λ j h. R.below j (omega arith);
        from = omega arith;
        to = omega arith;
        same = λ k h. ap (λ (P : List (List ℕ)). column P k) is;
        before = ap (take end) flat_is ∙ take-take end end entries (omega arith);
        entries_now = sym (put_none (end + i) entries) ∙ ap (λ (l : List ℕ). put (end + i) l entries) (sym nothing);
        entries_long = refl;
        low = λ k h. refl;
        high = λ k h b. absurd (omega arith);
        kept = kept_all;
      }
    where
      is : Q i ≡ P
      is = ap (λ (l : List ℕ). spread m c l P) (ap (λ (n : ℕ). drop n rows) ei ∙ drop-length rows)

      flat_is : flat (Q i) ≡ take end entries
      flat_is = ap flat is ∙ parts_flat G m (omega arith) ∙ ap (λ (n : ℕ). take n entries) (sym ee)

      nothing : drop end (flat (Q i)) ≡ []
      nothing =
          let e : length (take end entries) ≡ end = length-take-le end entries (omega (arith, G.room.entries_long)) in
          ap (drop end) flat_is ∙ ap (λ (n : ℕ). drop n (take end entries)) (sym e) ∙ drop-length (take end entries)

  module _ {starts' entries' : List ℕ} {end top i : ℕ} (S : Spreading m c rows starts entries starts' entries' end top i) where
    start_low : (k : ℕ) → k ≤ top → start_of (Q i) k ≡ at starts k
    start_low k h =
        tally_same (λ j. length (column (Q i) j)) (λ j. length (column P j)) k (λ j u. ap length (S.same j (omega arith)))
        ∙ start_is k (omega (arith, S.in_size))

    -- There is room where the entries go.
    spreading_fits : end + i ≤ length entries
    spreading_fits = omega (arith, S.to, S.upto)

    pub spreading_start : (k : ℕ) → k ≤ top → at starts' k ≤ at starts m
    spreading_start k h = omega (arith, S.low k h, starts_rise G.formed.starts_right k m (omega (arith, S.in_size)) (omega arith))

    -- All parts have been joined.
    pub spreading_all : i ≡ 0 → Held (spread m c rows P) starts entries starts' entries'
    spreading_all e =
        subst (λ (Q : List (List ℕ)). Held Q starts entries starts' entries') (ap Q e)
        (record {
          starts_after =
              over_is (starts_of (Q i)) starts (length_each (start_of (Q i)) (length (Q i) + 1) ∙ ap (λ (n : ℕ). n + 1) (columns i).size)
              (omega (arith, G.room.starts_long)) S.kept
              (λ k h. start_now k (omega arith) ∙ sym (each_at (start_of (Q i)) (length (Q i) + 1) k 0 (omega (arith, (columns i).size))));
          entries_after =
              S.entries_now
              ∙ ap (λ (n : ℕ). put n (drop end (flat (Q i))) entries) there
              ∙ put_is_over end (drop end (flat (Q i))) entries (omega (arith, spreading_fits))
              ∙ ap (λ (l : List ℕ). over (l ++ drop end (flat (Q i))) entries) (sym S.before)
              ∙ ap (λ (l : List ℕ). over l entries) (take-append-drop end (flat (Q i)));
        })
      where
        there : end + i ≡ end
        there = omega arith

        start_now : (k : ℕ) → k ≤ m → at starts' k ≡ start_of (Q i) k
        start_now k h = go (dec_lt top k)
          where
            go : Dec (top < k) → at starts' k ≡ start_of (Q i) k
            go (yes u) = omega (arith, S.high k u h)
            go (no u) = S.low k (omega arith) ∙ sym (start_low k (omega arith))

  -- One part more, the one before.
  module _ {starts' entries' : List ℕ} {end top j k : ℕ} (S : Spreading m c rows starts entries starts' entries' end top j)
      (i : ℕ) (ej : j ≡ i + 1) (ek : k ≡ at rows i) where
    pub let_in_top : k < top
    let_in_top = omega (arith, S.left i (omega arith))

    k_in : k < m
    k_in = omega (arith, let_in_top, S.in_size)

    next_end : at starts (k + 1) ≤ end
    next_end = omega (arith, S.from, starts_rise G.formed.starts_right (k + 1) top (omega (arith, let_in_top)) S.in_size)

    -- What is done to it: the part is as it was.
    within : Within starts entries k
    within = good_within G k k_in

    still : part starts' entries' k ≡ column P k
    still =
        ap₂ (λ (a b : ℕ). between a b entries') (S.low k (omega (arith, let_in_top))) (S.low (k + 1) (omega (arith, let_in_top)))
        ∙ between_same (at starts k) (at starts (k + 1)) entries' entries (omega (arith, S.entries_long, within.in_list)) within.in_list
        (λ x a b. ap (λ (l : List ℕ). at l x) S.entries_now
        ∙ put_before (end + j) (drop end (flat (Q j))) entries (spreading_fits S) x (omega (arith, next_end)))
        ∙ sym (part_is m starts entries k k_in)

    pub let_in_within : Within starts' entries' k
    let_in_within =
        record {
          no_fall = omega (arith, S.low k (omega (arith, let_in_top)), S.low (k + 1) (omega (arith, let_in_top)), within.no_fall);
          in_list = omega (arith, S.low (k + 1) (omega (arith, let_in_top)), S.entries_long, within.in_list);
        }

    pub let_in_end : at starts' (k + 1) ≤ end
    let_in_end = omega (arith, S.low (k + 1) (omega (arith, let_in_top)), next_end)

    pub let_in_room : end + i < length entries'
    let_in_room = omega (arith, spreading_fits S, S.entries_long)

    module _ {starts'' entries'' : List ℕ} {q : ℕ} (L : LetIn c k end top i starts' entries' starts'' entries'' q) where
      abbrev l : List ℕ
      l = column P k

      abbrev x : ℕ
      x = q - at starts k

      cut : Cut c x l
      cut = subst (λ (n : ℕ). Cut c (q - n) l) (S.low k (omega (arith, let_in_top))) (subst (Cut c (q - at starts' k)) still L.cut)

      joins : take x l ++ (c ∷ drop x l) ≡ joined m c l
      joins = joined_in ((good_columns G).rise k k_in) c_in cut (none k)

      q_from : at starts k ≤ q
      q_from = omega (arith, L.from, S.low k (omega (arith, let_in_top)))

      q_end : q ≤ end
      q_end =
          omega (
            arith,
            cut.within,
            next_end,
            ap length (part_is m starts entries k k_in),
            between_length (at starts k) (at starts (k + 1)) entries within.in_list,
            within.no_fall,
          )

      old : column (Q j) k ≡ l
      old = S.same k let_in_top

      next : Q i ≡ set (Q j) k (joined m c l)
      next =
          ap (λ (d : List ℕ). spread m c d P) (drop-cons rows i 0 (omega (arith, S.upto)))
          ∙ ap₂ (λ (a b : ℕ). spread m c (a ∷ drop b rows) P) (sym ek) (sym (ej ∙ add-one i))
          ∙ ap (λ (d : List ℕ). set (Q j) k (joined m c d)) old

      -- In front of place `q` of all the entries.
      flat_next : flat (Q i) ≡ take q (flat (Q j)) ++ (c ∷ drop q (flat (Q j)))
      flat_next =
          let e : start_of (Q j) k + x ≡ q = omega (arith, start_low S k (omega (arith, let_in_top)), q_from) in
          ap flat next
          ∙ ap (λ (d : List ℕ). flat (set (Q j) k d)) (sym joins ∙ ap (λ (d : List ℕ). take x d ++ (c ∷ drop x d)) (sym old))
          ∙ flat_more_in (Q j) k x c (omega (arith, k_in, (columns j).size)) (omega (arith, cut.within, ap length old))
          ∙ ap (λ (n : ℕ). take n (flat (Q j)) ++ (c ∷ drop n (flat (Q j)))) e

      long : length (take q (flat (Q j))) ≡ q
      long = length-take-le q (flat (Q j)) (omega (arith, q_end, S.to, S.upto, flat_many j, total j S.upto))

      front : take q (flat (Q j)) ≡ take q entries
      front = sym (take-take q end (flat (Q j)) q_end) ∙ ap (take q) S.before ∙ take-take q end entries q_end

      starts_more : (n : ℕ) → k < n → start_of (Q i) n ≡ start_of (Q j) n + 1
      starts_more n h =
          ap (λ (Q : List (List ℕ)). start_of Q n) next
          ∙ start_more (Q j) k (joined m c l) (omega (arith, k_in, (columns j).size))
          (joined_length ((good_columns G).rise k k_in) c_in (none k) ∙ ap (λ (d : List ℕ). length d + 1) (sym old)) n h

      -- What goes up is what stood there.
      moved : between q end entries' ++ drop end (flat (Q j)) ≡ drop q (flat (Q j))
      moved =
          let e : q + (end - q) ≡ end = omega (arith, q_end) in
          ap₂ (λ (a b : List ℕ). a ++ b)
          (between_same q end entries' (flat (Q j)) (omega (arith, spreading_fits S, S.entries_long)) (omega (arith, S.to, S.upto, flat_many j, total j S.upto))
          (λ a h b. ap (λ (d : List ℕ). at d a) S.entries_now
          ∙ put_before (end + j) (drop end (flat (Q j))) entries (spreading_fits S) a (omega arith)
          ∙ sym (get_or-take end entries a 0 b)
          ∙ ap (λ (d : List ℕ). at d a) (sym S.before)
          ∙ get_or-take end (flat (Q j)) a 0 b))
          (ap (λ (n : ℕ). drop n (flat (Q j))) (sym e) ∙ sym (drop-drop (end - q) q (flat (Q j))))
          ∙ take-append-drop (end - q) (drop q (flat (Q j)))

      pub spreading_more : Spreading m c rows starts entries starts'' entries'' q k i
      spreading_more =
          record {
            upto = omega (arith, S.upto);
            in_size = omega (arith, k_in);
            left = λ a h. omega (arith, ek, rising_less R a i h (omega (arith, S.upto)));
            from = q_from;
            to = omega (arith, q_end, S.to);
            same = λ a h. ap (λ (Q : List (List ℕ)). column Q a) next ∙ old_column (Q j) k (joined m c l) a (λ z. omega arith) ∙ S.same a (omega (arith, let_in_top));
            before = ap (take q) flat_next ∙ take_at (take q (flat (Q j))) (c ∷ drop q (flat (Q j))) q long ∙ front;
            entries_now = now;
            entries_long =
                ap length now
                ∙ put_length (q + i) (drop q (flat (Q i))) entries
                (omega (arith, length-drop q (flat (Q i)), flat_many i, total i (omega (arith, S.upto)), q_end, S.to, S.upto));
            low = λ a h. L.raised.before a h ∙ S.low a (omega (arith, let_in_top));
            high = λ a h b. go a h b (dec_lt top a);
            kept = kept_on S.kept (record { long = L.raised.kept.long; rest = λ a h. L.raised.kept.rest a (omega (arith, S.in_size)) });
          }
        where
          now : entries'' ≡ put (q + i) (drop q (flat (Q i))) entries
          now =
              L.entries_now
              ∙ ap (put (q + i) (c ∷ between q end entries')) S.entries_now
              ∙ put_put (q + i) (c ∷ between q end entries') (drop end (flat (Q j))) entries (end + j)
              (omega (arith, q_end, between_length q end entries' (omega (arith, spreading_fits S, S.entries_long))))
              (spreading_fits S)
              ∙ ap (λ (d : List ℕ). put (q + i) (c ∷ d) entries) moved
              ∙ ap (λ (d : List ℕ). put (q + i) d entries) (sym (ap (drop q) flat_next ∙ drop_at (take q (flat (Q j))) (c ∷ drop q (flat (Q j))) q long))

          go : (a : ℕ) → k < a → a ≤ m → Dec (top < a) → at starts'' a ≡ start_of (Q i) a + i
          go a h b (yes u) = omega (arith, L.raised.kept.rest a (omega arith), S.high a u b, starts_more a h)
          go a h b (no u) = omega (arith, L.raised.after a h (omega arith), S.low a (omega arith), start_low S a (omega arith), starts_more a h)
