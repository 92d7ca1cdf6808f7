-- Where a verdict is exact it is that of a dry run.
use Rattle.std.proofs.Common.{◌≡◌, ℕ, ◌≤◌, true, cond, leb, List, [], ◌∷◌, map, length, length-take, ℤ, pos, Ok, Err, sym, refl, ap, ◌∙◌, subst, arith}
use lib.ListN.{length-map}
use Rattle.std.specs.List.{AllByRecursion, list_all}
use Rattle.std.proofs.lemmas.Bool.{and_parts, and_from}
use Rattle.std.proofs.lemmas.Bool.Decides.{nat_tests}
use Rattle.model.specs.declared.line.Line.{Line}
use Rattle.model.specs.declared.range.Range.{Range}
use Rattle.model.specs.Envelopes.{Envelope}
use Rattle.model.specs.Environments.{fit, full, parameters}
use Rattle.model.specs.Programs.{Closed}
use Rattle.model.specs.Written.{WrittenLine}
use Rattle.model.specs.Whole.{TheEnding}
use Rattle.domain.specs.Lattice.{Lattice, Meaning, single}
use Rattle.sweep.specs.Blocks.{blocks}
use Rattle.sweep.specs.Exact.{NoWhile, Exact, ending, values_of}
use Rattle.sweep.specs.Sound.{Unchanged}
use Rattle.sweep.specs.Starts.{start as begin}
use Rattle.sweep.specs.Sweeps.{Verdict, certified, uncertified, verdict, sweep}
use Rattle.sweep.proofs.Covered.{comes_from}
use Rattle.certify.specs.Certifies.{Answer, Judged, Certifies, TheVerdict}
use Rattle.certify.specs.declared.refusal.CertifyRefusal.TheVariants.{Open, Store, Uncertified}
use Rattle.program.specs.declared.table.Program.{Program}
use Rattle.program.specs.Held.{held}
use Rattle.runner.specs.Drying.{start}
use Rattle.session.specs.Answers.{is_proper, max_steps, dry_answer}
use Rattle.session.specs.declared.refusal.DryRefusal.TheVariants.{Open as Unclosed, Steps, Value}
use Rattle.session.specs.Promises.{DryEnds, LikeDry}
use Rattle.session.proofs.Proper.{itself, proper_fits, each_passes}
use Rattle.session.proofs.Standing.{closed_test}
use Rattle.session.proofs.Beginning.{LimitedAll, six, start_legal}
use Rattle.model.proofs.Numbers.{lies_in, in_lies}

-- single values in proper ranges are within the limit
single_fits : (v : ℤ) → is_proper (single v) ≡ true → fit v ≡ true
single_fits v h = in_lies v full (proper_fits v (single v) h (itself v))

singles_fit : (vs : List ℤ) → list_all is_proper (map single vs) ≡ true → list_all fit vs ≡ true
singles_fit [] h = refl
singles_fit (v ∷ vs) h = let q = and_parts (is_proper (single v)) (list_all is_proper (map single vs)) h in and_from _ _ (single_fits v q.0) (singles_fit vs q.1)

-- a program is short enough for a dry run
pub few_lines : (p : Program) → length (held p) ≤ max_steps
few_lines p = let w = p.lines.within in simp length-take (omega arith)

module _ {S : Type 0} {M : Meaning S} (l : Lattice M) (travel : Envelope) (exact : Exact l travel) (lines : List Line) (allowed : List Range) (n : ℕ) (few : length lines ≤ max_steps)
    (written : AllByRecursion WrittenLine lines) (limited : LimitedAll travel.home) (six_ranges : length allowed ≡ parameters) (proper : list_all is_proper allowed ≡ true) where
  module _ (vs : List ℤ) (forward : AllByRecursion NoWhile lines) (singles : allowed ≡ map single vs) (closes : Closed lines) where
    many : length vs ≡ parameters
    many = sym (length-map vs single) ∙ (ap length (sym singles) ∙ six_ranges)

    all_fit : list_all fit vs ≡ true
    all_fit = singles_fit vs (subst (λ (rs : List Range). list_all is_proper rs ≡ true) singles proper)

    is_taken : dry_answer lines vs (length lines) ≡ Ok tt
    is_taken = λ i. cond (closed_test lines closes i) (cond (short i) (cond (all_fit i) (Ok tt) (Err Value)) (Err Steps)) (Err Unclosed)
      where
        short : leb (length lines) max_steps ≡ true
        short = grind (arith, nat_tests)

    ends_so : (v : Verdict) → Judged l lines travel allowed n v → TheEnding lines travel (length lines) 0 (start travel.home vs) (ending v)
    ends_so v k =
        let e = start travel.home vs in
        let from = comes_from l travel lines allowed n k.sweep k.enough k.judges in
        let same : allowed ≡ map single (values_of e) = singles ∙ ap (map single) (sym (six vs many)) in
        let unchanged = subst (λ (rs : List Range). Unchanged l lines travel (begin l travel rs) from.0) same from.3 in
        let judged = subst (λ (rs : List Range). verdict (sweep l (blocks lines) travel lines (begin l travel rs) from.0) ≡ v) same (sym (ap verdict from.1) ∙ k.is) in
        let legal = start_legal travel.home vs limited many (λ i h. lies_in _ full (each_passes fit vs i (pos 0) all_fit h)) in
        let both = exact lines e from.0 (length lines) closes written forward legal refl (omega arith) unchanged in
        record { is = (both (ending v)).1 (ap ending (sym judged)); only = λ o d. (both o).0 d ∙ ap ending judged }

    dry_ends : (r : Answer) → Certifies l lines travel allowed n r → DryEnds lines travel (length lines) (start travel.home vs) r
    dry_ends (Ok c) k = ends_so (certified c.hulls) k
    dry_ends (Err Open) k = tt
    dry_ends (Err Store) k = tt
    dry_ends (Err (Uncertified f)) k = ends_so (uncertified f) k

  pub like_dry : (r : Answer) → TheVerdict l lines travel allowed n r → LikeDry lines travel allowed r
  like_dry r v vs forward singles closes = (is_taken vs forward singles closes, dry_ends vs forward singles closes r v.is)
