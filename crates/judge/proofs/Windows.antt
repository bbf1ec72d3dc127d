-- The peel of a spiked pattern: before the window and past it each place keeps its pair, and where no column of the window is
-- available, there is no sound order. Rests on Peels.antt, SpikedParts.antt, `pattern`, `listing` and `register`.
use mathlib.Core.List.{List, []}
use mathlib.Core.Logic.{◌≢◌, ◌↔◌, ◌⊎◌, inl, inr}
use mathlib.Core.Path.{◌≡◌, sym, ap, ◌∙◌}
use Prim.Native.Nat.{ℕ, ◌+◌, ◌-◌, ◌≤◌, ◌<◌}
use native.Mathlib.Decide.{dec_lt}
use native.Mathlib.Omega.{arith}
use lib.Dec.{T}
use Rattle.pattern.specs.Order.{Sound, Triangular}
use Rattle.pattern.specs.Pattern.{has, Entry, Spiked}
use Rattle.pattern.specs.Places.{at, Among, place}
use Rattle.pattern.specs.Rising.{Rising}
use Rattle.pattern.specs.Turned.{SameEntries}
use Rattle.pattern.proofs.Finding.{place_at, place_of}
use Rattle.pattern.proofs.Greatest.{greatest_high, greatest_low}
use Rattle.pattern.proofs.Growing.{grown_full}
use Rattle.pattern.proofs.OldPeel.{Taken, GoesOn, taken_none, goes_on}
use Rattle.pattern.proofs.Rises.{rising_below}
use Rattle.pattern.proofs.Turning.{Columns, row_below}
use Rattle.pattern.proofs.Window.{rows_low, window_stuck}
use Rattle.listing.specs.Limits.{max_size}
use Rattle.listing.specs.Listing.{parts, Good}
use Rattle.listing.proofs.Listings.{good_columns}
use Rattle.register.specs.Order.{Placed}
use Rattle.register.proofs.Orders.{there_placed, placed_below}
use Rattle.judge.specs.Peel.{spiked, spiked_part, unplaced, window_end, Freed, Flagged, Counted, Searched, Peeled}
use Rattle.judge.proofs.NewRows.{NewTold}
use Rattle.judge.proofs.Peels.{Window, Peeling, not_before, available_one}
use Rattle.judge.proofs.SpikedParts.{spiked_is, spiked_columns, spiked_pattern}

-- What `peel` is given: columns and rows with the same entries, a sound order, and the new column with its old place.
pub record Given (m : ℕ) (cs cr rs rc or oc : List ℕ) (c : ℕ) (new : List ℕ) (p : ℕ) : Type 0 where
  pub columns : Good m cs cr
  pub rows : Good m rs rc
  pub same : SameEntries (parts m cs cr) (parts m rs rc)
  pub order : Sound (Entry (parts m cs cr)) m (at or) (at oc)
  pub inside : c < m
  pub rise : Rising m new
  pub c_place : p ≡ place (at oc) m c

-- Place `e` is past `p` and past the old places of the new rows.
pub record Ends (m : ℕ) (row : ℕ → ℕ) (new : List ℕ) (p e : ℕ) : Type 0 where
  pub after : p < e
  pub within : e ≤ m
  pub new_low : (x : ℕ) → T (has new x) → place row m x < e

pub ends : {m p e : ℕ} {row : ℕ → ℕ} {new places : List ℕ} → p < m → Rising m new → Placed m row places → e ≡ window_end places new p → Ends m row new p e
ends {m} {p} {e} {row} {new} {places} h R L z =
    record {
      after = omega arith;
      within = omega (arith, greatest_low (at places) new (m - 1) (λ x u. omega (arith, placed_below L x (rising_below R x u))));
      new_low = λ x u. omega (arith, L.stand x (rising_below R x u), greatest_high (at places) new x u);
    }

module _ {m : ℕ} {cs cr rs rc : List ℕ} (or oc : List ℕ) {c : ℕ} {new : List ℕ} {p : ℕ} (A : Given m cs cr rs rc or oc c new p) where
  abbrev S : List (List ℕ)
  S = spiked m cs cr c new

  abbrev key : ℕ → ℕ
  key = place (at oc) m

  pub given_columns : Columns m S
  given_columns = spiked_columns A.columns A.inside A.rise

  pattern_is : Spiked (Entry (parts m cs cr)) (Entry S) c (λ r. T (has new r))
  pattern_is = spiked_pattern A.columns A.inside A.rise

  key_at : (y : ℕ) → y < m → (key y < m) × (at oc (key y) ≡ y)
  key_at = place_of A.order.cols

  at_key : (t : ℕ) → t < m → key (at oc t) ≡ t
  at_key = place_at A.order.cols

  pub p_in : (p < m) × (at oc p ≡ c)
  p_in = let k = key_at c A.inside in (omega (arith, A.c_place, k.0), ap (at oc) A.c_place ∙ k.1)

  -- Another place has another column.
  other_column : (t : ℕ) → t < m → t ≢ p → at oc t ≢ c
  other_column t h n e = n (sym (at_key t h) ∙ ap key e ∙ sym A.c_place)

  -- Such places keep their pairs.
  keeps_pairs : {n : ℕ} {ps qs : List ℕ} (e : ℕ) → n ≤ e → e ≤ m → ((i : ℕ) → n ≤ i → i < e → i ≢ p) → Taken (Entry S) m (at or) (at oc) n ps qs
      → GoesOn (Entry S) m (at or) (at oc) n e ps qs
  keeps_pairs e h l d = goes_on A.order pattern_is (row_below (good_columns A.columns)) e h l (λ i a b. other_column i (omega arith) (d i a b))

  module _ {e : ℕ} (D : Ends m (at or) new p e) where
    pub given_window : Window m S (at or) (at oc) e
    given_window =
        record {
          small = A.columns.small;
          columns = given_columns;
          cols_once = A.order.cols;
          within = D.within;
          low = rows_low A.order pattern_is (row_below given_columns) D.within D.new_low;
        }

    -- ---- The window freed

    module _ {places freed flagged old counts : List ℕ} (L : Placed m (at or) places) (F : Freed (at or) p e places freed) (G : Flagged new freed flagged)
        (M : Placed m (at oc) old) (K : Counted (λ t. spiked_part cs cr c new (at oc t)) flagged p e counts) where
      -- A place before the window or past it keeps its row.
      kept_out : (t : ℕ) → t < m → (p ≤ t → t < e → ⊥) → at flagged (at or t) ≡ t
      kept_out t h n =
          let b = A.order.rows.below t h in
          let z : at freed (at or t) ≡ t =
          F.kept (at or t) (λ u a k v. let q = A.order.rows.once u t (omega (arith, D.within)) h v in n (omega arith) (omega arith))
          ∙ L.stand (at or t) b ∙ place_at A.order.rows t h in
          G.kept (at or t) (omega (arith, A.columns.small)) (omega (arith, A.columns.small)) ∙ z

      -- A row of the window has no place, and any other has.
      row_freed : (x : ℕ) → x < m → p ≤ place (at or) m x → place (at or) m x < e → at freed x ≡ max_size
      row_freed x h a b = ap (at freed) (sym (place_of A.order.rows x h).1) ∙ F.freed (place (at or) m x) a b

      row_kept : (x : ℕ) → x < m → (p ≤ place (at or) m x → place (at or) m x < e → ⊥) → at flagged x < max_size
      row_kept x h n =
          let q = place_of A.order.rows x h in
          omega (arith, ap (at flagged) q.1, kept_out (place (at or) m x) q.0 n, q.0, A.columns.small)

      start_told : NewTold m new flagged
      start_told x h u = go (dec_lt (place (at or) m x) p) (dec_lt (place (at or) m x) e)
        where
          go : Dec (place (at or) m x < p) → Dec (place (at or) m x < e) → (at flagged x ≡ max_size + 1) ↔ T (has new x)
          go (yes a) d = absurd (omega (arith, row_kept x h (λ k b. omega arith)))
          go (no a) (no b) = absurd (omega (arith, row_kept x h (λ k d. omega arith)))
          go (no a) (yes b) = G.told x (omega (arith, A.columns.small)) (row_freed x h (omega arith) b)

      start_pairs : GoesOn (Entry S) m (at or) (at oc) 0 p [] []
      start_pairs = keeps_pairs p (omega arith) (omega (arith, p_in.0)) (λ i a b. omega arith) taken_none

      start_back : (x : ℕ) → x < m → at flagged x < max_size → Among (at start_pairs.rows) p x ⊎ (e ≤ place (at or) m x)
      start_back x h u = go (dec_lt (place (at or) m x) p) (dec_lt (place (at or) m x) e)
        where
          go : Dec (place (at or) m x < p) → Dec (place (at or) m x < e) → Among (at start_pairs.rows) p x ⊎ (e ≤ place (at or) m x)
          go (yes a) d = inl (place (at or) m x, a, start_pairs.rows_old (place (at or) m x) (omega arith) a ∙ (place_of A.order.rows x h).1)
          go (no a) (no b) = inr (omega arith)
          go (no a) (yes b) = absurd (omega (arith, G.left x (omega (arith, A.columns.small)) (row_freed x h (omega arith) b)))

      pub peeling_start : Peeling m S (at or) (at oc) new p e p flagged old counts p
      peeling_start =
          record {
            upto = omega (arith, D.after);
            within = omega (arith, D.after);
            rows = start_pairs.rows;
            cols = start_pairs.cols;
            grown = start_pairs.taken.grown;
            rows_low = λ i h. omega (arith, start_pairs.taken.rows i h, D.after);
            cols_low = λ i h. omega (arith, start_pairs.taken.cols i h, D.after);
            first = λ i h. (i, h, start_pairs.cols_old i (omega arith) h);
            placed = record {
              long = G.long;
              taken = λ i h. ap (at flagged) (start_pairs.rows_old i (omega arith) h) ∙ kept_out i (omega (arith, p_in.0)) (λ a b. omega arith);
              later = λ t a b. kept_out t b (λ k u. omega arith);
              back = start_back;
            };
            told = start_told;
            moved = record {
              long = M.long;
              taken = λ i h.
                  let b : i < m = omega (arith, p_in.0) in
                  ap (at old) (start_pairs.cols_old i (omega arith) h) ∙ M.stand (at oc i) (A.order.cols.below i b) ∙ at_key i b;
              others = λ y h o. M.stand y h;
            };
            left = record {
              long = K.long;
              stand = λ t a b. K.stand t a b ∙ ap (unplaced flagged) (sym (spiked_is A.columns A.inside A.rise (at oc t) (A.order.cols.below t (omega (arith, D.within)))));
            };
            past = record { after = omega arith; none = λ u a b. absurd (omega arith) };
          }

    -- ---- The window peeled

    module _ {n t : ℕ} {places old counts : List ℕ} (P : Peeling m S (at or) (at oc) new p e n places old counts t) where
      -- No column of the window has a count of one.
      pub peeling_stuck : n < e → Searched counts p e → ¬ Triangular (Entry S) m
      peeling_stuck h none =
          window_stuck A.order pattern_is (row_below given_columns) D.within D.new_low P.grown h
          (λ y x l a. none.none (key y) (not_before given_window P y a.col_below a.col_left) l (available_one given_window P y x l a))

      -- All its columns have been taken: the later places keep their pairs.
      module _ (z : n ≡ e) where
        all_pairs : GoesOn (Entry S) m (at or) (at oc) e m P.rows P.cols
        all_pairs =
            keeps_pairs m D.within (omega arith) (λ i a b. omega (arith, D.after))
            (record { grown = rw z at P.grown; rows = λ i h. P.rows_low i (omega arith); cols = λ i h. P.cols_low i (omega arith) })

        row_there : (i : ℕ) → i < m → at places (at all_pairs.rows i) ≡ i
        row_there i h = go (dec_lt i e)
          where
            go : Dec (i < e) → at places (at all_pairs.rows i) ≡ i
            go (yes u) = ap (at places) (sym (all_pairs.rows_same i u)) ∙ P.placed.taken i (omega arith)
            go (no u) = ap (at places) (all_pairs.rows_old i (omega arith) h) ∙ P.placed.later i (omega arith) h

        col_there : (i : ℕ) → i < m → at old (at all_pairs.cols i) ≡ i
        col_there i h = go (dec_lt i e)
          where
            go : Dec (i < e) → at old (at all_pairs.cols i) ≡ i
            go (yes u) = ap (at old) (sym (all_pairs.cols_same i u)) ∙ P.moved.taken i (omega arith)
            go (no u) =
                ap (at old) (all_pairs.cols_old i (omega arith) h)
                ∙ P.moved.others (at oc i) (A.order.cols.below i h) (λ j b k. omega (arith, P.cols_low j b, ap key k, at_key i h))
                ∙ at_key i h

        pub peeling_all : Peeled m S (at oc) places old
        peeling_all =
            let g = all_pairs.taken.grown in
            record {
              rows = all_pairs.rows;
              cols = all_pairs.cols;
              whole = grown_full g;
              rows_placed = there_placed (at all_pairs.rows) P.placed.long g.peel.rows row_there;
              cols_placed = there_placed (at all_pairs.cols) P.moved.long g.peel.cols col_there;
            }
