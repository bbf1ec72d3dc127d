-- The table s1 to s12 is right, from the definitions. Rests on Replies.antt.
use mathlib.Core.Bool.{Bool, true, ◌&&◌}
use mathlib.Core.List.{List, [], ◌∷◌, map}
use mathlib.Core.Logic.{◌⊎◌, inl, inr}
use mathlib.Core.Path.{◌≡◌, refl, sym, ap, subst}
use Prim.Native.Nat.{ℕ, zero, suc}
use native.Mathlib.Omega.{arith}
use lib.Dec.{T}
use lib.ListN.{length}
use Rattle.pattern.specs.Order.{SoundOrder, SoundRegister}
use Rattle.pattern.specs.Pattern.{Entry, RowsBelow}
use Rattle.pattern.specs.Places.{least, place}
use Rattle.pattern.specs.Series.{numbers, greatest}
use Rattle.pattern.specs.Verdict.{Replacement, size, to_last}
use Rattle.pattern.proofs.Computed.{reach_rows, eta_rows, unpermuted, after_peel, verdict_of}
use Rattle.pattern.proofs.Peeled.{left, all_but, available, grow, peeled, Full, Stuck, peeled_is}
use Rattle.pattern.proofs.Peeling.{peel_sound}
use Rattle.pattern.proofs.Reaching.{reached}
use Rattle.pattern.proofs.Rises.{under, rising, test_rising, rising_below}
use Rattle.pattern.proofs.Tests.{and_left, and_right, meets}
use Rattle.specimens.specs.Reply.{Reply, Replied}
use Rattle.specimens.specs.Table.{Specimen, table, Right, Each}
use Rattle.specimens.proofs.Replies.{reply_of, reply_right}

-- ---- The starting order t:t is sound

-- Each column's rows are in range and rise.
unfoldable pub columns_rise : ℕ → List (List ℕ) → Bool
columns_rise m [] = true
columns_rise m (l ∷ P) = rising m l && columns_rise m P

columns_below : (m : ℕ) (P : List (List ℕ)) → T (columns_rise m P) → RowsBelow (Entry P) m
unfolding columns_rise
columns_below m [] t r c e = absurd e
columns_below m (l ∷ P) t r zero e = rising_below (test_rising m l (and_left (rising m l) (columns_rise m P) t)) r e
columns_below m (l ∷ P) t r (suc c) e = columns_below m P (and_right (rising m l) (columns_rise m P) t) r c e

-- ---- The table, computed

-- Whether the columns rise, the size, the order that peeling by column number gives, and the reply.
abbrev Row : Type 0
Row = Bool × ℕ × (List ℕ × List ℕ) × Reply

unfoldable pub computed : Specimen → Row
computed s = let a = s.asked in (columns_rise (size a) a.columns, size a, peeled a.columns (size a) (λ i. i), reply_of a)

-- The same as the specimen has it.
unfoldable pub told : Specimen → Row
told s = let a = s.asked in (true, length a.order_rows, (a.order_rows, a.order_cols), s.reply)

table_computes : map computed table ≡ map told table
unfolding computed told columns_rise rising under peeled grow available left all_but least place reply_of verdict_of after_peel unpermuted reach_rows eta_rows reached meets numbers to_last greatest
table_computes = refl

-- ---- A specimen that computes is right

-- The register that it starts from is sound.
abbrev pub Starts : Specimen → Type 0
Starts s = SoundRegister s.asked.columns s.asked.order_rows s.asked.order_cols

module _ (s : Specimen) (e : computed s ≡ told s) where
  abbrev a : Replacement
  a = s.asked

  columns_good : T (columns_rise (size a) a.columns)
  unfolding computed told
  columns_good = subst T (sym (ap (λ (f : Row). f.0) e)) tt

  -- The order is sound: it is a peel of full length.
  starts_sound : Starts s
  unfolding computed told
  starts_sound = record { rows_below = below; order = go (subst Ends (ap (λ (f : Row). f.2) e) (peeled_is a.columns (size a) below (λ i. i) (record { below = λ i h. h; once = λ i j hi hj u. u }))) }
    where
      below : RowsBelow (Entry a.columns) (size a)
      below = columns_below (size a) a.columns columns_good

      Ends : List ℕ × List ℕ → Type 0
      Ends g = Full a.columns (size a) (place (λ i. i) (size a)) g ⊎ Stuck a.columns (size a) g

      go : Ends (a.order_rows, a.order_cols) → SoundOrder (Entry a.columns) (size a) a.order_rows a.order_cols
      go (inl f) = record { row_count = f.row_count; col_count = f.col_count; sound = peel_sound f.greedy.peel }
      go (inr f) = absurd (omega (arith, ap (λ (f : Row). f.1) e, f.0))

  computed_right : Right s
  unfolding computed told
  computed_right = subst (Replied a) (ap (λ (f : Row). f.3) e) (reply_right a starts_sound)

-- ---- So the whole table is

each : {F : Specimen → Type 0} → ((s : Specimen) → computed s ≡ told s → F s) → (l : List Specimen) → map computed l ≡ map told l → Each F l
each f [] e = tt
each f (s ∷ l) e = (f s (cc), each f l (cc))

-- Every reply of the table is right; by `reply_unique` no other is.
pub specimens : Each Right table
specimens = each computed_right table table_computes

-- And every register of it is sound.
pub registers : Each Starts table
registers = each starts_sound table table_computes
