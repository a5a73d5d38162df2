-- What rules mean: scopes, allowed lines, settings and standing choices.
-- Assumes nothing.
use Rattle.std.specs.Prelude.{◌≡◌, ℕ, ◌<◌, ◌≤◌, Bool, true, cond, ◌⊎◌, List, [], ◌∷◌, map, length, ◌==◌}
use Rattle.rows.specs.Values.{Values}

-- for each field, the set of values that it may still take
abbrev pub Sets : Type 0
Sets = ℕ → Values

-- a rule: the fields that it speaks of, and which lines it allows, a line being a value for each of those fields in order
pub record Rule : Type 0 where
  pub scope : List ℕ
  pub allows : List ℕ → Bool

-- the field stands in the list
abbrev pub In : ℕ → List ℕ → Type 0
In f [] = ⊥
In f (g ∷ gs) = (f ≡ g) ⊎ In f gs

-- no field stands twice in the list
abbrev pub Distinct : List ℕ → Type 0
Distinct [] = Unit {0}
Distinct (f ∷ fs) = (In f fs → ⊥) × Distinct fs

-- a fact of each rule of a list
abbrev pub EachRule : (Rule → Type 0) → List Rule → Type 0
EachRule P [] = Unit {0}
EachRule P (r ∷ rs) = P r × EachRule P rs

-- a rule is lawful for n fields: it names at least one field, only fields below n, and none twice
pub record LawfulRule (n : ℕ) (r : Rule) : Type 0 where
  pub names_some : 0 < length r.scope
  pub below : (f : ℕ) → In f r.scope → f < n
  pub apart : Distinct r.scope

-- a list of rules is lawful for n fields: at most 1,024 rules, each lawful
pub record Lawful (n : ℕ) (rules : List Rule) : Type 0 where
  pub few : length rules ≤ 1024
  pub each : EachRule (LawfulRule n) rules

-- the line that gives each scope field f the value a f is allowed
abbrev pub Allowed : Rule → (ℕ → ℕ) → Type 0
Allowed r a = r.allows (map a r.scope) ≡ true

-- value v of field f stands in an allowed line made of values of S
pub record Supported (S : Sets) (r : Rule) (f v : ℕ) : Type 0 where
  pub line : ℕ → ℕ
  pub gives : line f ≡ v
  pub inside : (g : ℕ) → In g r.scope → S g (line g) ≡ true
  pub allowed : Allowed r line

-- S' is S narrowed by the rule: each scope field keeps exactly its supported values, and every other field its set
pub record Narrowed (r : Rule) (S S' : Sets) : Type 0 where
  pub left : (f v : ℕ) → In f r.scope → S' f v ≡ true → Supported S r f v
  pub kept : (f v : ℕ) → In f r.scope → Supported S r f v → S' f v ≡ true
  pub others : (f v : ℕ) → (In f r.scope → ⊥) → S' f v ≡ S f v

-- a full setting: a value for each field, such that every rule allows its line
abbrev pub Setting : List Rule → (ℕ → ℕ) → Type 0
Setting rules a = EachRule (λ r. Allowed r a) rules

-- each of the n fields has its value in S
abbrev pub Inside : ℕ → Sets → (ℕ → ℕ) → Type 0
Inside n S a = (f : ℕ) → f < n → S f (a f) ≡ true

-- each value of C in a field that the rule names stands in an allowed line made of values of C
abbrev pub StandsBy : Sets → Rule → Type 0
StandsBy C r = (f v : ℕ) → In f r.scope → C f v ≡ true → Supported C r f v

-- a standing choice for n fields: no set is empty, and every value is supported in every rule that names its field
pub record Standing (n : ℕ) (rules : List Rule) (C : Sets) : Type 0 where
  pub some_value : (f : ℕ) → f < n → (v : ℕ) × (C f v ≡ true)
  pub supported : EachRule (StandsBy C) rules

-- of the first n fields, C has only values of S
abbrev pub Within : ℕ → Sets → Sets → Type 0
Within n C S = (f v : ℕ) → f < n → C f v ≡ true → S f v ≡ true

-- the value that a line of a scope gives a field: that of its first place
abbrev pub given : List ℕ → List ℕ → ℕ → ℕ
given [] line f = 0
given (g ∷ gs) [] f = 0
given (g ∷ gs) (v ∷ vs) f = cond (f == g) v (given gs vs f)

-- a rule told by a test on what a line gives the fields of its scope
abbrev pub by_test : List ℕ → ((ℕ → ℕ) → Bool) → Rule
by_test scope test = record { scope = scope; allows = λ line. test (given scope line) }
