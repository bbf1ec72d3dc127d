-- A listing whose parts lose entries, in one pass forward over the parts that change: where it begins, one such part, and what it
-- comes to. Rests on Pieces.antt and `listing`.
use mathlib.Core.List.{List, [], ◌++◌, append_assoc}
use mathlib.Core.Logic.{inl, inr, ⊎_elim}
use mathlib.Core.Path.{◌≡◌, refl, sym, ap, ap₂, ◌∙◌, subst}
use Prim.Native.Nat.{ℕ, zero, suc, ◌+◌, ◌-◌, ◌≤◌, ◌<◌}
use native.Mathlib.Decide.{dec_lt}
use native.Mathlib.Numerals.{add-one}
use native.Mathlib.Omega.{arith}
use lib.Dec.{T}
use lib.ListN.{length, length-append}
use Rattle.pattern.specs.Flat.{flat, start_of, starts_of}
use Rattle.pattern.specs.Pattern.{has, column}
use Rattle.pattern.specs.Places.{at}
use Rattle.pattern.specs.Series.{each}
use Rattle.pattern.proofs.Each.{length_each, each_at}
use Rattle.pattern.proofs.Flats.{flat_more, flat_start}
use Rattle.pattern.proofs.Rises.{rising_less}
use Rattle.pattern.proofs.Search.{last_or}
use Rattle.pattern.proofs.Tests.{choose_other, has_among, among_has}
use Rattle.listing.specs.Held.{over, put, Held}
use Rattle.listing.specs.Limits.{max_total}
use Rattle.listing.specs.Listing.{between, part, parts, Within, Good}
use Rattle.listing.proofs.Between.{between_none, between_length, between_same, between_between}
use Rattle.listing.proofs.Holding.{over_rest, over_is, over_length}
use Rattle.listing.proofs.Listings.{starts_rise, part_is, good_within, start_small}
use Rattle.listing.proofs.Puts.{put_over}
use Rattle.store.specs.Store.{without, left, emptied, Lowered, Changing, Cut, Piece}
use Rattle.store.proofs.Pieces.{piece_within, piece_left}
use Rattle.store.proofs.Without.{without_none}

-- Of what stood before place `from`, `gone` numbers have been deleted, and what is left of it, `done`, is where it belongs. The first
-- `i` of the parts that change lie before part `k`, whose start is the first that is still as it was.
pub record Taken (m : ℕ) (P : List (List ℕ)) (c r : ℕ) (these starts entries starts' entries' : List ℕ) (from k gone i : ℕ) : Type 0 where
  pub done : List ℕ
  pub upto : i ≤ length these
  pub in_size : k ≤ m
  pub past : (x : ℕ) → x < i → at these x < k
  pub ahead : (x : ℕ) → i ≤ x → x < length these → k ≤ at these x
  pub here : from ≤ at starts k
  pub many : length done + gone ≡ from
  pub flat_now : flat (each (left P c r) k) ≡ done ++ between from (at starts k) entries
  pub entries_now : entries' ≡ over done entries
  pub starts_long : length starts' ≡ length starts
  pub low : (j : ℕ) → j < k → at starts' j ≡ start_of (emptied m P c r) j
  pub high : (j : ℕ) → k ≤ j → at starts' j ≡ at starts j

module _ {m c r : ℕ} {these starts entries : List ℕ} (G : Good m starts entries) (C : Changing m (parts m starts entries) c r these) where
  abbrev P : List (List ℕ)
  P = parts m starts entries

  abbrev f : ℕ → List ℕ
  f = left P c r

  abbrev Q : List (List ℕ)
  Q = emptied m P c r

  abbrev Named : ℕ → Type 0
  Named x = T (has these x)

  pub taken_none : Taken m P c r these starts entries starts entries 0 0 0 0
  taken_none =
      record {
        done = [];
        upto = omega arith;
        in_size = omega arith;
        past = λ x h. absurd (omega arith);
        ahead = λ x h b. omega arith;
        here = omega arith;
        many = refl;
        flat_now = sym (ap (λ (n : ℕ). between 0 n entries) G.formed.starts_right.first ∙ between_none 0 entries);
        entries_now = refl;
        starts_long = refl;
        low = λ j h. absurd (omega arith);
        high = λ j h. refl;
      }

  module _ {starts' entries' : List ℕ} {from k gone i : ℕ} (K : Taken m P c r these starts entries starts' entries' from k gone i) where
    rise : (j x : ℕ) → j ≤ x → x ≤ m → at starts j ≤ at starts x
    rise = starts_rise G.formed.starts_right

    fits : (x : ℕ) → x ≤ m → at starts x ≤ length entries
    fits x h = omega (arith, rise x m h (omega arith), G.room.entries_long)

    done_fits : length K.done ≤ length entries
    done_fits = omega (arith, K.many, K.here, fits k K.in_size)

    entries_long : length entries' ≡ length entries
    entries_long = ap length K.entries_now ∙ over_length K.done entries done_fits

    -- What is at place `from` or later is as it was.
    still : (x : ℕ) → from ≤ x → at entries' x ≡ at entries x
    still x h = ap (λ (l : List ℕ). at l x) K.entries_now ∙ over_rest K.done entries x (omega (arith, K.many))

    -- ---- The parts from part `k` up to part `j`, of which nothing is deleted

    -- A part before all those that are left to change.
    untouched : (x : ℕ) → k ≤ x → x < m → ((y : ℕ) → i ≤ y → y < length these → x < at these y) → f x ≡ part starts entries x
    untouched x h b before =
        choose_other x c [] (without r (column P x)) (λ e. none (subst Named (sym e) (C.whole (omega (arith, e)))))
        ∙ without_none r (column P x) (λ t. none (C.having x t))
        ∙ part_is m starts entries x b
      where
        none : ¬ Named x
        none t = let a = has_among these x t in go a (dec_lt a.0 i)
          where
            go : (a : (y : ℕ) × (y < length these) × (at these y ≡ x)) → Dec (a.0 < i) → ⊥
            go a (yes u) = omega (arith, K.past a.0 u, a.2)
            go a (no u) = omega (arith, before a.0 (omega arith) a.1, a.2)

    -- They stand one after another behind part `k - 1`.
    abbrev Run : ℕ → Type 0
    Run j = flat (each f j) ≡ K.done ++ between from (at starts j) entries

    run : (j : ℕ) → k ≤ j → j ≤ m → ((x : ℕ) → k ≤ x → x < j → f x ≡ part starts entries x) → Run j
    run zero h b same = let e : k ≡ 0 = omega arith in subst Run e K.flat_now
    run (suc j) h b same =
        ⊎_elim
        (λ u. on (omega arith) (run j (omega arith) (omega arith) (λ x v w. same x v (omega arith))))
        (λ e. subst Run e K.flat_now)
        (last_or (suc j) k (omega arith))
      where
        on : k ≤ j → Run j → Run (suc j)
        on u r =
            ap (λ (n : ℕ). flat (each f n)) (sym (add-one j))
            ∙ flat_more f j
            ∙ ap₂ (λ (a b : List ℕ). a ++ b) r (same j u (omega arith))
            ∙ append_assoc K.done (between from (at starts j) entries) (part starts entries j)
            ∙ ap (λ (l : List ℕ). K.done ++ l)
            (between_between from (at starts j) entries (omega (arith, K.here, rise k j u (omega arith))) (at starts (j + 1)) (good_within G j (omega arith)).no_fall)
            ∙ ap (λ (n : ℕ). K.done ++ between from (at starts n) entries) (add-one j)

    -- Their starts are so many less as numbers have gone.
    run_start : (j : ℕ) → k ≤ j → j ≤ m → ((x : ℕ) → k ≤ x → x < j → f x ≡ part starts entries x) → start_of Q j + gone ≡ at starts j
    run_start j h b same =
        omega (
          arith,
          flat_start f m j b,
          ap length (run j h b same),
          length-append K.done (between from (at starts j) entries),
          between_length from (at starts j) entries (fits j b),
          K.many,
          K.here,
          rise k j h b,
        )

    -- What stands from place `from` up to place `q` goes behind what is done.
    moved : {entries'' : List ℕ} (q : ℕ) → from ≤ q → q ≤ length entries → entries'' ≡ put (from - gone) (between from q entries') entries'
        → entries'' ≡ over (K.done ++ between from q entries) entries
    moved q h b down =
        down
        ∙ ap₂ (λ (a b : List ℕ). put (from - gone) a b) (between_same from q entries' entries (omega (arith, entries_long)) b (λ x u v. still x u)) K.entries_now
        ∙ put_over K.done (between from q entries) entries (from - gone) (omega (arith, K.many))

    -- ---- The end

    module _ (all : i ≡ length these) where
      same : (x : ℕ) → k ≤ x → x < m → f x ≡ part starts entries x
      same x h b = untouched x h b (λ y u v. absurd (omega arith))

      pub last_start : at starts' m ≡ at starts m
      last_start = K.high m K.in_size

      pub last_down : (from - gone ≤ from) × (from ≤ at starts m) × (at starts m ≤ length entries')
      last_down = omega (arith, K.here, rise k m K.in_size (omega arith), entries_long, G.room.entries_long)

      pub last_lower : (k ≤ m + 1) × (m + 1 ≤ length starts') × (gone ≤ max_total) × ((x : ℕ) → k ≤ x → x < m + 1 → gone ≤ at starts' x)
      last_lower = (
        omega (arith, K.in_size),
        omega (arith, K.starts_long, G.room.starts_long),
        omega (arith, K.many, K.here, start_small G k K.in_size),
        λ x h b. omega (arith, K.high x h, run_start x h (omega arith) (λ y u v. same y u (omega arith))),
      )

      pub taken_all : {starts'' entries'' : List ℕ} → entries'' ≡ put (from - gone) (between from (at starts m) entries') entries' → Lowered k (m + 1) gone starts' starts''
          → Held Q starts entries starts'' entries''
      taken_all {starts''} down L =
          record {
            starts_after =
                over_is (starts_of Q) starts (length_each (start_of Q) (length Q + 1) ∙ ap (λ (n : ℕ). n + 1) (length_each f m)) (omega (arith, G.room.starts_long))
                (record { long = L.long ∙ K.starts_long; rest = λ x h. L.others x (inr h) ∙ K.high x (omega (arith, K.in_size)) })
                (λ x h. now x h (dec_lt x k) ∙ sym (each_at (start_of Q) (length Q + 1) x 0 (omega (arith, length_each f m))));
            entries_after =
                moved (at starts m) last_down.1 G.room.entries_long down
                ∙ ap (λ (l : List ℕ). over l entries) (sym (run m K.in_size (omega arith) same));
          }
        where
          now : (x : ℕ) → x < m + 1 → Dec (x < k) → at starts'' x ≡ start_of Q x
          now x h (yes u) = L.others x (inl u) ∙ K.low x u
          now x h (no u) =
              omega (arith, L.less x (omega arith) h, K.high x (omega arith), run_start x (omega arith) (omega arith) (λ y v w. same y v (omega arith)))

    -- ---- The next part that changes

    module _ {j : ℕ} (h : i < length these) (is : j ≡ at these i) where
      pub next_in : (k ≤ j) × (j < m)
      next_in = omega (arith, is, K.ahead i (omega arith) h, C.rise.below i h)

      before : (x : ℕ) → k ≤ x → x < j → f x ≡ part starts entries x
      before x u b = untouched x u (omega (arith, next_in.1)) (λ y v w. later y v w (dec_lt i y))
        where
          later : (y : ℕ) → i ≤ y → y < length these → Dec (i < y) → x < at these y
          later y v w (yes z) = omega (arith, is, rising_less C.rise i y z w)
          later y v w (no z) = let e : y ≡ i = omega arith in omega (arith, is, ap (at these) e)

      within : Within starts entries j
      within = good_within G j next_in.1

      pub next_within : (j + 1 < length starts') × Within starts' entries' j
      next_within = (
        omega (arith, K.starts_long, G.room.starts_long, next_in.1),
        record {
          no_fall = omega (arith, K.high j next_in.0, K.high (j + 1) (omega (arith, next_in.0)), within.no_fall);
          in_list = omega (arith, K.high (j + 1) (omega (arith, next_in.0)), within.in_list, entries_long);
        },
      )

      pub next_lower : (k ≤ j + 1) × (j + 1 ≤ length starts') × (gone ≤ max_total) × ((x : ℕ) → k ≤ x → x < j + 1 → gone ≤ at starts' x)
      next_lower = (
        omega (arith, next_in.0),
        omega (arith, next_within.0),
        omega (arith, K.many, K.here, start_small G k K.in_size),
        λ x u b. omega (arith, K.high x u, run_start x u (omega (arith, next_in.1)) (λ y v w. before y v (omega arith))),
      )

      module _ {q to : ℕ} (X : Piece c r j starts' entries' q to) where
        -- The part is as it was.
        abbrev e : at starts' j ≡ at starts j
        e = K.high j next_in.0

        abbrev e' : at starts' (j + 1) ≡ at starts (j + 1)
        e' = K.high (j + 1) (omega (arith, next_in.0))

        same_part : part starts' entries' j ≡ part starts entries j
        same_part =
            ap₂ (λ (a b : ℕ). between a b entries') e e'
            ∙ between_same (at starts j) (at starts (j + 1)) entries' entries (omega (arith, entries_long, within.in_list)) within.in_list
            (λ x u b. still x (omega (arith, K.here, rise k j next_in.0 (omega (arith, next_in.1)))))

        piece : Piece c r j starts entries q to
        piece =
            record {
              all = λ z. ((X.all z).0 ∙ e, (X.all z).1 ∙ e');
              one = λ z. (
                omega (arith, e, (X.one z).0),
                subst (λ (l : List ℕ). Cut r (q - at starts j) l) same_part (subst (λ (n : ℕ). Cut r (q - n) (part starts' entries' j)) e (X.one z).1),
                (X.one z).2,
              );
            }

        inside : (at starts j ≤ q) × (q ≤ to) × (to ≤ at starts (j + 1))
        inside = piece_within G next_in.1 piece (C.only j (subst Named (sym is) (among_has these i h)))

        pub next_piece : (from ≤ q) × (q ≤ to) × (to ≤ max_total)
        next_piece =
            omega (arith, inside.0, inside.1, inside.2, K.here, rise k j next_in.0 (omega (arith, next_in.1)), start_small G (j + 1) (omega (arith, next_in.1)))

        pub next_down : (from - gone ≤ from) × (from ≤ q) × (q ≤ length entries')
        next_down = omega (arith, next_piece.0, inside.1, inside.2, within.in_list, entries_long)

        pub taken_more : {starts'' entries'' : List ℕ} → entries'' ≡ put (from - gone) (between from q entries') entries' → Lowered k (j + 1) gone starts' starts''
            → Taken m P c r these starts entries starts'' entries'' to (j + 1) (gone + (to - q)) (i + 1)
        taken_more {starts''} down L =
            record {
              done = K.done ++ between from q entries;
              upto = omega arith;
              in_size = omega (arith, next_in.1);
              past = λ x u. ⊎_elim (λ v. omega (arith, K.past x v, next_in.0)) (λ z. omega (arith, is, ap (at these) z)) (last_or i x (omega arith));
              ahead = λ x u b. omega (arith, is, rising_less C.rise i x (omega arith) b);
              here = inside.2;
              many =
                  omega (
                    arith,
                    length-append K.done (between from q entries),
                    between_length from q entries (omega (arith, inside.1, inside.2, within.in_list)),
                    K.many,
                    next_piece.0,
                    inside.1,
                  );
              flat_now = flat_next;
              entries_now = moved q next_piece.0 (omega (arith, inside.1, inside.2, within.in_list)) down;
              starts_long = L.long ∙ K.starts_long;
              low = λ x u. now x u (dec_lt x k);
              high = λ x u. L.others x (inr u) ∙ K.high x (omega (arith, next_in.0));
            }
          where
            now : (x : ℕ) → x < j + 1 → Dec (x < k) → at starts'' x ≡ start_of Q x
            now x u (yes v) = L.others x (inl v) ∙ K.low x v
            now x u (no v) =
                omega (arith, L.less x (omega arith) u, K.high x (omega arith), run_start x (omega arith) (omega (arith, next_in.1)) (λ y a b. before y a (omega arith)))

            flat_next : flat (each f (j + 1)) ≡ (K.done ++ between from q entries) ++ between to (at starts (j + 1)) entries
            flat_next =
                flat_more f j
                ∙ ap₂ (λ (a b : List ℕ). a ++ b) (run j next_in.0 (omega (arith, next_in.1)) before)
                (piece_left G next_in.1 piece (C.only j (subst Named (sym is) (among_has these i h))))
                ∙ append_assoc K.done (between from (at starts j) entries) (between (at starts j) q entries ++ between to (at starts (j + 1)) entries)
                ∙ ap (λ (l : List ℕ). K.done ++ l)
                (sym (append_assoc (between from (at starts j) entries) (between (at starts j) q entries) (between to (at starts (j + 1)) entries))
                ∙ ap (λ (l : List ℕ). l ++ between to (at starts (j + 1)) entries)
                (between_between from (at starts j) entries (omega (arith, K.here, rise k j next_in.0 (omega (arith, next_in.1)))) q inside.0))
                ∙ sym (append_assoc K.done (between from q entries) (between to (at starts (j + 1)) entries))
