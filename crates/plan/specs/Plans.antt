-- Plans as trees and as bytes, by the table of kinds. Assumes nothing.
use Rattle.std.specs.Prelude.{◌≡◌, ◌≢◌, ℕ, zero, suc, ◌+◌, ◌-◌, ◌<◌, ◌≤◌, Bool, false, ◌&&◌, List, [], ◌∷◌, ◌++◌, length, drop, ◌==◌, nat_le, nat_lt, slice_index_or, Result, MatchResult}
use Rattle.plan.specs.declared.Kind.{Kind}
use Rattle.plan.specs.declared.Kind.TheVariants as kind
use Rattle.plan.specs.declared.UnknownKind.{UnknownKind}
use Rattle.plan.specs.declared.Shape.{Shape}

-- the number of a kind in a plan
abbrev pub kind_number : Kind → ℕ
kind_number kind.Scan = 1
kind_number kind.Filter = 2
kind_number kind.BlockJoin = 3

-- the kind with this number, or an error with a number that no kind has
abbrev pub KindOf : ℕ → Result Kind UnknownKind → Type 0
KindOf number r = MatchResult r (λ kind. kind_number kind ≡ number) (λ e. (e.0 ≡ number) × ((kind : Kind) → kind_number kind ≢ number))

-- the table of kinds, from 1: parameter bytes, children, and 1 for a keeper
abbrev pub no_kind : Shape
no_kind = record { parameters = 0; children = 0; keepers = 0 }

abbrev pub kinds : List Shape
kinds =
    no_kind
    ∷ record { parameters = 3; children = 0; keepers = 0 }
    ∷ record { parameters = 6; children = 1; keepers = 0 }
    ∷ record { parameters = 8; children = 2; keepers = 1 } ∷ []

-- the numbers of the table, and the line of each
abbrev pub IsKind : ℕ → Type 0
IsKind k = (1 ≤ k) × (k < length kinds)

abbrev pub kind_at : ℕ → Shape
kind_at k = slice_index_or kinds k no_kind

abbrev pub kind_parameters : ℕ → ℕ
kind_parameters k = (kind_at k).parameters

abbrev pub kind_children : ℕ → ℕ
kind_children k = (kind_at k).children

abbrev pub kind_keepers : ℕ → ℕ
kind_keepers k = (kind_at k).keepers

-- bytes that begin with an operator of that shape: the number of its kind and its parameters, and the bytes behind them
pub record BeginsWith (bs : List ℕ) (shape : Shape) (behind : List ℕ) : Type 0 where
  pub number : ℕ
  pub parameters : List ℕ
  pub known : IsKind number
  pub is : shape ≡ kind_at number
  pub whole : length parameters ≡ shape.parameters
  pub written : bs ≡ number ∷ (parameters ++ behind)

-- plan trees side by side: a first tree, given by its kind, its parameters and its children, and the trees behind it
pub data Trees : Type 0 where
  none : Trees
  tree : (kind : ℕ) (params : List ℕ) (below behind : Trees) → Trees

-- how many trees stand side by side
abbrev pub count : Trees → ℕ
count none = 0
count (tree k ps below behind) = suc (count behind)

-- every operator has a kind of the table, and its parameters and children as the table has them
abbrev pub Proper : Trees → Type 0
Proper none = Unit {0}
Proper (tree k ps below behind) =
    (1 ≤ k) × (k < length kinds) × (length ps ≡ kind_parameters k) × (count below ≡ kind_children k) × Proper below × Proper behind

-- parent before children
abbrev pub plan_bytes : Trees → List ℕ
plan_bytes none = []
plan_bytes (tree k ps below behind) = k ∷ (ps ++ (plan_bytes below ++ plan_bytes behind))

abbrev pub operators : Trees → ℕ
operators none = 0
operators (tree k ps below behind) = suc (operators below + operators behind)

abbrev pub keepers : Trees → ℕ
keepers none = 0
keepers (tree k ps below behind) = kind_keepers k + (keepers below + keepers behind)

-- the bytes are exactly n trees side by side, with at most m operators and q keepers
pub record Exactly (n m q : ℕ) (bs : List ℕ) : Type 0 where
  pub trees : Trees
  pub proper : Proper trees
  pub counted : count trees ≡ n
  pub written : plan_bytes trees ≡ bs
  pub few : operators trees ≤ m
  pub kept : keepers trees ≤ q

-- the bytes are exactly one tree, of so many operators and keepers
pub record Planned (m q : ℕ) (bs : List ℕ) : Type 0 where
  pub trees : Trees
  pub proper : Proper trees
  pub one : count trees ≡ 1
  pub written : plan_bytes trees ≡ bs
  pub operators : operators trees ≡ m
  pub keepers : keepers trees ≡ q

-- the same told of bytes: m operators and q keepers at most, and o trees to come
unfoldable pub trees_told : ℕ → ℕ → ℕ → List ℕ → Bool
trees_told m zero q bs = length bs == 0
trees_told zero (suc o) q bs = false
trees_told (suc m) (suc o) q [] = false
trees_told (suc m) (suc o) q (k ∷ bs) =
    nat_le 1 k && (nat_lt k (length kinds) && (nat_le (kind_parameters k) (length bs) && (nat_le (kind_keepers k) q
    && trees_told m (kind_children k + o) (q - kind_keepers k) (drop (kind_parameters k) bs))))

-- whether bytes are exactly one tree of at most 16 operators and 6 keepers
abbrev pub one_tree : List ℕ → Bool
one_tree bs = trees_told 16 1 6 bs
