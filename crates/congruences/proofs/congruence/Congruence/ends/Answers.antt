use Rattle.std.specs.Prelude.{int_le}
use Rattle.std.proofs.Common.{◌∙◌, sym, ◌≤ℤ◌, arith, w32, w64, SFits, rules}
use Rattle.std.proofs.lemmas.Int.{ints, to_z-of_z}
use Rattle.std.proofs.lemmas.Bool.{and_parts}
use Rattle.congruences.specs.Ranging.{ends_some, ends_within}
use Rattle.congruences.proofs.congruence.Congruence.ends.Goals as goal

-- both ends lie in the range that was given
within : (c : goal.After-last) → (c.args.range.lo ≤ℤ c.first-first.result) × (c.first-first.result ≤ℤ c.args.range.hi) × (c.first-first.result ≤ℤ c.last.result) × (c.last.result ≤ℤ c.args.range.hi)
within c =
    let g : SFits w32 c.args.range.lo = search rules in let h : SFits w32 c.args.range.hi = search rules in
    let a = simp to_z-of_z at c.first-first.ensures in
    let b = simp to_z-of_z at c.last.ensures in
    let f : SFits w64 c.first-first.result = search rules in
    let t = and_parts (int_le c.args.range.lo c.first-first.result) (int_le c.first-first.result c.args.range.hi) (simp to_z-of_z at (sym c.contains.ensures ∙ c.if-contains.true)) in
    let u = t.0 in let v = t.1 in
    let p : c.args.range.lo ≤ℤ c.first-first.result = omega (arith, ints) in
    let q : c.first-first.result ≤ℤ c.args.range.hi = omega (arith, ints) in
    let s = ends_within c.args.self c.args.range.lo c.args.range.hi c.first-first.result c.last.result a b p q in
    (p, q, s.0, s.1)

pub overflow_cast-result-then-contains : goal.overflow_cast-result-then-contains
overflow_cast-result-then-contains c =
    let w = within c in
    let p = w.0 in let q = w.2 in let r = w.3 in
    let g : SFits w32 c.args.range.lo = search rules in let h : SFits w32 c.args.range.hi = search rules in
    let f : SFits w64 c.last.result = search rules in
    omega (arith, ints)

pub returns-then-contains : goal.returns-then-contains
returns-then-contains c =
    let w = within c in
    let p = w.0 in let q = w.1 in let r = w.2 in let s = w.3 in
    let g : SFits w32 c.args.range.lo = search rules in let h : SFits w32 c.args.range.hi = search rules in
    let a = simp to_z-of_z at c.first-first.ensures in
    let b = simp to_z-of_z at c.last.ensures in
    let i : SFits w64 c.first-first.result = search rules in
    let j : SFits w64 c.last.result = search rules in
    let k : SFits w32 c.first-first.result = omega (arith, ints) in
    let l : SFits w32 c.last.result = omega (arith, ints) in
    simp to_z-of_z (ends_some c.args.self c.args.range.lo c.args.range.hi c.first-first.result c.last.result a b p q)
