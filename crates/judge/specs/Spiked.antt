-- The spiked pattern as it is lent: its columns, and one of them. Rests on Peel.antt.
use Rattle.std.specs.Prelude.{List, ℕ}
use Rattle.judge.specs.Peel.{spiked, spiked_part}
use Rattle.judge.specs.declared.spiked.Spiked.{Spiked}

abbrev pub spiked_of : Spiked → List (List ℕ)
spiked_of s = spiked s.columns.size s.columns.listed.starts.now s.columns.listed.entries.now s.column s.new.now

-- Its column `y`, read off the lists.
abbrev pub spiked_part_of : Spiked → ℕ → List ℕ
spiked_part_of s = spiked_part s.columns.listed.starts.now s.columns.listed.entries.now s.column s.new.now
