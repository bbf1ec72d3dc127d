-- No reply line is longer than a reply line may be: how many bytes its parts have at most. Rests on specs/Shown.antt, `listing`
-- and `text`.
use mathlib.Core.List.{List, [], ◌∷◌, ◌++◌}
use mathlib.Core.Path.{◌≡◌, ap}
use Prim.Native.Nat.{ℕ, ◌+◌, ◌*◌, ◌≤◌, ◌<◌}
use native.Mathlib.Omega.{arith}
use lib.ListN.{length, get_or, take, length-append}
use lib.Seq.{length-take-le}
use Rattle.pattern.specs.Places.{at}
use Rattle.pattern.specs.Order.{pairs}
use Rattle.pattern.proofs.Pairs.{pairs_length, pair_is}
use Rattle.listing.specs.Limits.{max_size}
use Rattle.text.specs.Text.{LF, max_number, max_count, decimal, carried, spaced_number, spaced, Small}
use Rattle.text.proofs.SeriesLaws.{series_few}
use Rattle.text.proofs.Decimals.{decimal_five, decimal_twenty}
use Rattle.text.proofs.SpacedLaws.{spaced_one}
use Rattle.replies.specs.Replies.{start_word, bad_word, refused_word, eta_word, none_word, places_word, numbered, bad_line, start_refused, eta_text, place_text, places_text, verdict_text, put_word, max_reply, colon}
use Rattle.replies.specs.Shown.{max_word, max_answer, Stands}

-- ---- Numbers

spaced_length : (n : ℕ) → length (spaced (n ∷ [])) ≡ 1 + length (decimal n)
spaced_length n = omega (arith, ap length (spaced_one n))

pub numbered_few : (word : List ℕ) (n : ℕ) → n ≤ max_count → length (numbered word n) ≤ length word + 22
numbered_few word n h =
    omega
    (arith, length-append word (spaced (n ∷ []) ++ (LF ∷ [])), length-append (spaced (n ∷ [])) (LF ∷ []), spaced_length n, decimal_twenty n h)

pub bad_line_few : (n : ℕ) → n ≤ max_count → length (bad_line n) ≤ max_reply
unfolding bad_word
bad_line_few n h = omega (arith, numbered_few bad_word n h)

pub start_refused_few : (n : ℕ) → n ≤ max_count → length (start_refused n) ≤ max_reply
unfolding start_word refused_word
start_refused_few n h = omega (arith, length-append start_word (numbered refused_word n), numbered_few refused_word n h)

pub opening_few : (c : ℕ) → c ≤ max_number → length (put_word ++ spaced (c ∷ [])) ≤ 9
unfolding put_word
opening_few c h = omega (arith, spaced_length c, decimal_five c h)

-- ---- Lists of 16-bit numbers

spaced_few : (l : List ℕ) → Small l → length (spaced l) ≤ length l * 6
spaced_few l small = series_few spaced_number carried 6 l 0 (λ k s h. omega (arith, decimal_five (at l k) (small k h))) 0

eta_few : (eta : List ℕ) → length eta ≤ max_size → Small eta → length (eta_text eta) ≤ 6000
unfolding none_word
eta_few [] h small = omega arith
eta_few (r ∷ eta) h small = omega (arith, spaced_few (r ∷ eta) small)

place_few : (s r c : ℕ) → r ≤ max_number → c ≤ max_number → length (place_text s (r, c)) ≤ 12
place_few s r c h k = omega (arith, length-append (decimal r) (colon ∷ decimal c), decimal_five r h, decimal_five c k)

module _ (m : ℕ) (rows cols : List ℕ) (h : m ≤ max_size) (in_rows : m ≤ length rows) (in_cols : m ≤ length cols) (R : Small rows) (C : Small cols) where
  abbrev order : List (ℕ × ℕ)
  order = pairs m rows cols

  long : length order ≡ m
  long = pairs_length m rows cols

  few : (k s : ℕ) → k < length order → length (place_text s (get_or order k (0, 0))) ≤ 12
  few k s u =
      let met = pair_is m rows cols k (omega (arith, long)) in
      omega
      (arith, place_few s (at rows k) (at cols k) (R k (omega (arith, long))) (C k (omega (arith, long))), ap (λ (p : ℕ × ℕ). length (place_text s p)) met)

  places_few : length (places_text order) ≤ 12000
  places_few = omega (arith, series_few place_text carried 12 order (0, 0) few 0, long)

-- ---- Verdicts

module _ (word : List ℕ) (bump : ℕ) (eta : List ℕ) (order : List (ℕ × ℕ)) where
  verdict_length : length (verdict_text word bump eta order) ≡ length word + length (decimal bump) + length (eta_text eta) + length (places_text order) + 12
  unfolding eta_word places_word
  verdict_length =
      let end = places_text order ++ (LF ∷ []) in
      omega (
        arith,
        length-append word (spaced (bump ∷ []) ++ (eta_word ++ (eta_text eta ++ (places_word ++ end)))),
        length-append (spaced (bump ∷ [])) (eta_word ++ (eta_text eta ++ (places_word ++ end))),
        length-append (eta_text eta) (places_word ++ end),
        length-append (places_text order) (LF ∷ []),
        spaced_length bump,
      )

pub verdict_few : {m : ℕ} {rows cols eta : List ℕ} (word : List ℕ) (bump : ℕ) → length word ≤ max_word → bump ≤ max_count → Stands m (length eta) rows cols eta
    → Small rows → Small cols → Small eta → length (verdict_text word bump eta (pairs m rows cols)) ≤ max_answer
verdict_few {m} {rows} {cols} {eta} word bump h b S R C E =
    omega (
      arith,
      verdict_length word bump eta (pairs m rows cols),
      decimal_twenty bump b,
      eta_few eta S.few E,
      places_few m rows cols S.small S.in_rows S.in_cols R C,
    )

-- The eta rows at the head of a list.
pub stands_taken : {m k : ℕ} {rows cols eta : List ℕ} → Stands m k rows cols eta → Stands m (length (take k eta)) rows cols (take k eta)
stands_taken {m} {k} {rows} {cols} {eta} S =
    record { small = S.small; in_rows = S.in_rows; in_cols = S.in_cols; few = omega (arith, S.few, length-take-le k eta S.in_eta); in_eta = omega arith }
