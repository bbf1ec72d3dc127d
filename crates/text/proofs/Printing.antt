-- Text printed behind what has been printed: nothing, two texts, a text part by part, a series thing by thing. Rests on
-- specs/Prints.antt, Progress.antt and `listing`.
use mathlib.Core.List.{List, [], ◌∷◌, ◌++◌, append-nil, append_assoc}
use mathlib.Core.Path.{◌≡◌, refl, sym, ap, ◌∙◌, subst}
use Prim.Native.Nat.{ℕ, ◌+◌, ◌≤◌, ◌<◌}
use native.Mathlib.Omega.{arith}
use lib.ListN.{length, get_or, length-append}
use Rattle.listing.proofs.Puts.{put_none}
use Rattle.text.specs.Prints.{HasRoom, Prints}
use Rattle.text.specs.Puts.{Puts}
use Rattle.text.specs.Series.{series}
use Rattle.text.specs.declared.output.Output.{Output}
use Rattle.text.proofs.Progress.{Gone, gone_more, gone_length, puts_both, puts_length}

pub prints : {l : List ℕ} {old new : Output} → HasRoom (length l) old → new.bytes.ghost_name ≡ old.bytes.ghost_name → Puts old.len l old.bytes.now new.len new.bytes.now → Prints l old new
prints h e p = record { same_list = e; as_long = puts_length h p; puts = p }

pub prints_none : (out : Output) → Prints [] out out
prints_none out = record { same_list = refl; as_long = refl; puts = record { after = omega arith; stand = sym (put_none out.len out.bytes.now) } }

-- A text, and another behind it.
pub prints_both : {a b : List ℕ} {old new newer : Output} → old.len ≤ length old.bytes.now → Prints a old new → Prints b new newer → Prints (a ++ b) old newer
prints_both h p q = record { same_list = q.same_list ∙ p.same_list; as_long = q.as_long ∙ p.as_long; puts = puts_both h p.puts q.puts }

-- ---- Part by part

-- Parts one behind another.
abbrev pub joined : List (List ℕ) → List ℕ
joined [] = []
joined (a ∷ []) = a
joined (a ∷ b ∷ l) = a ++ joined (b ∷ l)

joined_more : (a : List ℕ) (l : List (List ℕ)) → joined (a ∷ l) ≡ a ++ joined l
joined_more a [] = sym (append-nil a)
joined_more a (b ∷ l) = refl

-- Of a text that has room these parts are left to be printed.
pub record Left (text : List ℕ) (old : Output) (parts : List (List ℕ)) (new : Output) : Type 0 where
  pub front : List ℕ
  pub whole : front ++ joined parts ≡ text
  pub prints : Prints front old new
  pub room : HasRoom (length text) old

pub none_printed : {text : List ℕ} {old : Output} (parts : List (List ℕ)) → joined parts ≡ text → HasRoom (length text) old → Left text old parts old
none_printed {old = old} parts e h = record { front = []; whole = e; prints = prints_none old; room = h }

module _ {text : List ℕ} {old : Output} {a : List ℕ} {parts : List (List ℕ)} {new : Output} (l : Left text old (a ∷ parts) new) where
  whole_more : (l.front ++ a) ++ joined parts ≡ text
  whole_more = append_assoc l.front a (joined parts) ∙ ap (λ (j : List ℕ). l.front ++ j) (sym (joined_more a parts)) ∙ l.whole

  long : HasRoom (length l.front + length a) old
  long = omega (arith, l.room, ap length whole_more, length-append (l.front ++ a) (joined parts), length-append l.front a)

  pub part_room : HasRoom (length a) new
  part_room = omega (arith, long, l.prints.puts.after, l.prints.as_long)

  pub part_printed : {newer : Output} → Prints a new newer → Left text old parts newer
  part_printed p = record { front = l.front ++ a; whole = whole_more; prints = prints_both (omega (arith, l.room)) l.prints p; room = l.room }

pub all_printed : {text : List ℕ} {old new : Output} → Left text old [] new → Prints text old new
all_printed {text} {old} {new} l = subst (λ (t : List ℕ). Prints t old new) (sym (append-nil l.front) ∙ l.whole) l.prints

-- ---- A series

abbrev pub Printing : {A : Type 0} (one : ℕ → A → List ℕ) (after : ℕ → A → ℕ) (L : List A) (k s : ℕ) (old new : Output) → Type 0
Printing one after L k s old new = Gone one after L k s (λ l. Prints l old new)

module _ {A : Type 0} {one : ℕ → A → List ℕ} {after : ℕ → A → ℕ} {L : List A} {k s : ℕ} {old new : Output} (p : Printing one after L k s old new) (d : A) (h : k < length L)
    (room : HasRoom (length (series one after 0 L)) old) where
  pub printing_more : {new' : Output} → Prints (one s (get_or L k d)) new new' → Printing one after L (k + 1) (after s (get_or L k d)) old new'
  printing_more q = gone_more p d h (λ u. prints_both (omega (arith, room)) u q)

  pub printing_room : HasRoom (length (one s (get_or L k d))) new
  printing_room =
      let q : Gone one after L (k + 1) (after s (get_or L k d)) (λ l. l ≡ p.bytes ++ one s (get_or L k d)) = gone_more p d h (λ u. refl) in
      omega (arith, p.so.puts.after, p.so.as_long, room, gone_length q, ap length q.so, length-append p.bytes (one s (get_or L k d)))
