-- A keeper's choice list: its own choice, then those of the keepers below its outer and its inner child. Assumes nothing.
use Rattle.std.specs.Prelude.{ℕ, Bool, List, take, drop, ◌==◌, slice_index_or}

-- whether the keeper is to go back; a missing choice is 1, to dump
abbrev pub goes_back : List ℕ → Bool
goes_back choices = slice_index_or choices 0 1 == 2

-- for an outer child with so many keepers
abbrev pub choices_of_outer : ℕ → List ℕ → List ℕ
choices_of_outer keepers choices = take keepers (drop 1 choices)

abbrev pub choices_of_inner : ℕ → List ℕ → List ℕ
choices_of_inner keepers choices = drop keepers (drop 1 choices)
