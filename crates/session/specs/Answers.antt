-- What the calls allow, start and dry are answered.
use Rattle.std.specs.Prelude.{ℕ, suc, ◌-◌, Bool, cond, not, ◌||◌, List, [], ◌∷◌, replicate, ℤ, pos, neg_ℤ, Some, None, Ok, Err, Option, Result, is_ok, int_lt, nat_le, nat_lt, slice_set}
use Rattle.std.specs.List.{list_all}
use Rattle.model.specs.Limits.{limit}
use Rattle.model.specs.Blocks.{closed}
use Rattle.model.specs.Environments.{parameters, fit, lies}
use Rattle.model.specs.declared.line.Line.{Line}
use Rattle.model.specs.declared.range.Range.{Range}
use Rattle.session.specs.declared.refusal.AllowRefusal.{AllowRefusal}
use Rattle.session.specs.declared.refusal.AllowRefusal.TheVariants.{Parameter, Range as OfRange}
use Rattle.session.specs.declared.refusal.DryRefusal.{DryRefusal}
use Rattle.session.specs.declared.refusal.DryRefusal.TheVariants.{Open, Steps, Value}
use Rattle.session.specs.declared.refusal.StartRefusal.{StartRefusal}
use Rattle.session.specs.declared.refusal.StartRefusal.TheVariants.{Uncertified, Outside}

-- ---- allow
-- a range of numbers within the limit
abbrev pub is_proper : Range → Bool
is_proper r = not (int_lt r.hi r.lo || (int_lt r.lo (neg_ℤ (pos limit)) || int_lt (pos limit) r.hi))

-- the parameter is one of six, and the range is proper
abbrev pub allow_answer : ℕ → Range → Result (Unit {0}) AllowRefusal
allow_answer n r = cond (nat_lt n 1 || nat_lt parameters n) (Err Parameter) (cond (is_proper r) (Ok tt) (Err OfRange))

-- before any range is allowed
abbrev pub no_ranges : List Range
no_ranges = replicate parameters (record { lo = pos 0; hi = pos 0 })

abbrev pub ranges_after : List Range → ℕ → Range → List Range
ranges_after rs n r = cond (is_ok (allow_answer n r)) (slice_set rs (n - 1) r) rs

-- ---- start
-- the lowest number, counted from n, of a value that lies outside its range
abbrev pub outside_from : ℕ → List Range → List ℤ → Option ℕ
outside_from n [] vs = None
outside_from n (r ∷ rs) [] = None
outside_from n (r ∷ rs) (v ∷ vs) = cond (lies v r) (outside_from (suc n) rs vs) (Some n)

abbrev pub by_outside : Option ℕ → Result (Unit {0}) StartRefusal
by_outside None = Ok tt
by_outside (Some n) = Err (Outside n)

-- a certificate stands, and each value lies in its range; else the lowest parameter, from 1, whose value does not is told
abbrev pub start_answer : {C : Type 0} → Option C → List Range → List ℤ → Result (Unit {0}) StartRefusal
start_answer None rs vs = Err Uncertified
start_answer (Some c) rs vs = by_outside (outside_from 1 rs vs)

-- ---- dry
abbrev pub max_steps : ℕ
max_steps = 100000

-- the program is closed, the steps are not too many, and each value is within the limit
abbrev pub dry_answer : List Line → List ℤ → ℕ → Result (Unit {0}) DryRefusal
dry_answer lines vs steps = cond (closed lines) (cond (nat_le steps max_steps) (cond (list_all fit vs) (Ok tt) (Err Value)) (Err Steps)) (Err Open)
