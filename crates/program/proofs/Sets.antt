-- Two answers of a look-up are equal in at most one way: numbers, blocks and what blocks are made of are sets.
use Rattle.std.proofs.Common.{◌≡◌, ℕ, ◌⊎◌, List, [], ◌∷◌, get_or, ℤ, Some, None, Option, refl, inl, inr}
use mathlib.Core.List.{is_set}
use mathlib.Core.Sum.{⊎_set}
use native.Mathlib.Nat.{ℕ_set}
use lib.IntN.{ℤ_set}
use ghost.Sets.{retract_set}
use Rattle.model.specs.declared.expression.Parameter.{Parameter}
use Rattle.model.specs.declared.expression.Parameter.TheVariants.{P1, P2, P3, P4, P5, P6}
use Rattle.model.specs.declared.expression.Term.{Term}
use Rattle.model.specs.declared.expression.Term.TheVariants.{Number, Parameter as Of}
use Rattle.model.specs.declared.expression.Rel.{Rel}
use Rattle.model.specs.declared.expression.Rel.TheVariants.{Eq, Ne, Lt, Le, Gt, Ge}
use Rattle.model.specs.declared.block.BlockKind.{BlockKind}
use Rattle.model.specs.declared.block.BlockKind.TheVariants.{While, If}
use Rattle.model.specs.declared.block.Block.{Block}

-- an option is a list of at most one
module _ {X : Type 0} where
  abbrev to_list : Option X → List X
  to_list None = []
  to_list (Some x) = x ∷ []

  abbrev of_list : List X → Option X
  of_list [] = None
  of_list (x ∷ xs) = Some x

  back : (o : Option X) → of_list (to_list o) ≡ o
  back None = refl
  back (Some x) = refl

  option_set : IsSet X → IsSet (Option X)
  option_set s = retract_set to_list of_list back (is_set s)

-- a variant is found again by its place in the list of all
variant_set : {X : Type 0} (all : List X) (d : X) → ((x : X) → (n : ℕ) × (get_or all n d ≡ x)) → IsSet X
variant_set all d place = retract_set (λ x. (place x).0) (λ n. get_or all n d) (λ x. (place x).1) ℕ_set

abbrev kinds : List BlockKind
kinds = While ∷ If ∷ []

kind_place : (k : BlockKind) → (n : ℕ) × (get_or kinds n While ≡ k)
kind_place While = (0, refl)
kind_place If = (1, refl)

abbrev rels : List Rel
rels = Eq ∷ Ne ∷ Lt ∷ Le ∷ Gt ∷ Ge ∷ []

rel_place : (r : Rel) → (n : ℕ) × (get_or rels n Eq ≡ r)
rel_place Eq = (0, refl)
rel_place Ne = (1, refl)
rel_place Lt = (2, refl)
rel_place Le = (3, refl)
rel_place Gt = (4, refl)
rel_place Ge = (5, refl)

abbrev parameters : List Parameter
parameters = P1 ∷ P2 ∷ P3 ∷ P4 ∷ P5 ∷ P6 ∷ []

parameter_place : (p : Parameter) → (n : ℕ) × (get_or parameters n P1 ≡ p)
parameter_place P1 = (0, refl)
parameter_place P2 = (1, refl)
parameter_place P3 = (2, refl)
parameter_place P4 = (3, refl)
parameter_place P5 = (4, refl)
parameter_place P6 = (5, refl)

abbrev to_sum : Term → ℤ ⊎ Parameter
to_sum (Number n) = inl n
to_sum (Of p) = inr p

abbrev of_sum : ℤ ⊎ Parameter → Term
of_sum (inl n) = Number n
of_sum (inr p) = Of p

sum_back : (t : Term) → of_sum (to_sum t) ≡ t
sum_back (Number n) = refl
sum_back (Of p) = refl

term_set : IsSet Term
term_set = retract_set to_sum of_sum sum_back (⊎_set ℤ_set (variant_set parameters P1 parameter_place))

-- a block with its condition taken apart
record Parts : Type 0 where
  kind : BlockKind
  label : ℕ
  rel : Rel
  left : Term
  right : Term
  first : ℕ
  end : Option ℕ
  deriving IsSet as parts-set

block_set : IsSet Block
block_set = retract_set
    (λ (b : Block). record { kind = b.kind; label = b.label; rel = b.condition.rel; left = b.condition.left; right = b.condition.right; first = b.first; end = b.end })
    (λ (p : Parts). record { kind = p.kind; label = p.label; condition = record { rel = p.rel; left = p.left; right = p.right }; first = p.first; end = p.end })
    (λ b. refl)
    (parts-set (variant_set kinds While kind_place) ℕ_set (variant_set rels Eq rel_place) term_set (option_set ℕ_set))

pub number_answer : IsSet (Option ℕ)
number_answer = option_set ℕ_set

pub block_answer : IsSet (Option Block)
block_answer = option_set block_set
