-- The gantry's sides bound its ranges, and are proper.
use Rattle.std.specs.Prelude.{◌≡◌, ℕ, ℤ, pos, ◌+ℤ◌, neg_ℤ, ◌≤ℤ◌, ◌≢◌}
use Rattle.std.proofs.Common.{arith, lit≤}
use Rattle.std.proofs.lemmas.Int.{ints}
use Rattle.model.specs.declared.line.Axis.{Axis}
use Rattle.model.specs.declared.line.Axis.TheVariants.{X, Y, Z, U}
use Rattle.model.specs.Sides.{Proper}
use Rattle.travel.specs.declared.gantry.Gantry.{Gantry}
use Rattle.travel.specs.Travels.{Within, Ordered, Limited, Lawful}
use Rattle.travel.specs.Gantries.{other_axis, at_most, at_least, gantry_envelope}

held : (lo n hi : ℤ) → Within lo n hi → ((n +ℤ pos 0) ≤ℤ hi) × ((neg_ℤ n +ℤ pos 0) ≤ℤ neg_ℤ lo)
held lo n hi h = (omega (arith, ints), omega (arith, ints))

ranged : (lo n hi : ℤ) → (n +ℤ pos 0) ≤ℤ hi → (neg_ℤ n +ℤ pos 0) ≤ℤ neg_ℤ lo → Within lo n hi
ranged lo n hi h k = (omega (arith, ints), omega (arith, ints))

home_near : (lo home hi : ℤ) → Ordered lo home hi → Limited home
home_near lo home hi h = (omega (arith, ints), omega (arith, ints))

different : (v : Axis) → v ≢ other_axis v
different X e = let z : ◌≡◌ {A = ℕ} 0 1 = cc in omega arith
different Y e = let z : ◌≡◌ {A = ℕ} 0 1 = cc in omega arith
different Z e = let z : ◌≡◌ {A = ℕ} 0 1 = cc in omega arith
different U e = let z : ◌≡◌ {A = ℕ} 0 1 = cc in omega arith

both_proper : (v : Axis) (lo home hi : ℤ) → Ordered lo home hi → Proper (at_most v hi) × Proper (at_least v lo)
both_proper v lo home hi h = (
  record { axes = different v; low = omega (arith, ints); high = omega (arith, ints) },
  record { axes = different v; low = omega (arith, ints); high = omega (arith, ints) },
)

pub gantry_lawful : (g : Gantry) → Lawful (gantry_envelope g)
gantry_lawful g =
    let x = both_proper X _ _ _ g.x in
    let y = both_proper Y _ _ _ g.y in
    let z = both_proper Z _ _ _ g.z in
    let u = both_proper U _ _ _ g.u in
    record {
      only = λ p h.
          let a = held _ _ _ h.x in
          let b = held _ _ _ h.y in
          let c = held _ _ _ h.z in
          let d = held _ _ _ h.u in
          (a.0, (a.1, (b.0, (b.1, (c.0, (c.1, (d.0, (d.1, tt))))))));
      all = λ p h. record {
        x = ranged _ _ _ h.0 h.1.0;
        y = ranged _ _ _ h.1.1.0 h.1.1.1.0;
        z = ranged _ _ _ h.1.1.1.1.0 h.1.1.1.1.1.0;
        u = ranged _ _ _ h.1.1.1.1.1.1.0 h.1.1.1.1.1.1.1.0;
      };
      home_in = record {
        x = (g.x.1, g.x.2);
        y = (g.y.1, g.y.2);
        z = (g.z.1, g.z.2);
        u = (g.u.1, g.u.2);
      };
      home_fits = (home_near _ _ _ g.x, home_near _ _ _ g.y, home_near _ _ _ g.z, home_near _ _ _ g.u);
      some = lit≤ tt;
      few = lit≤ tt;
      proper = (x.0, (x.1, (y.0, (y.1, (z.0, (z.1, (u.0, (u.1, tt))))))));
    }
