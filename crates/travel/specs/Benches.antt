-- The tables of the examples: a gantry, and a beam that has a gap of 90,000.
use Rattle.std.specs.Prelude.{ℤ, pos, negsuc}
use Rattle.model.specs.Axes.{Position}
use Rattle.model.specs.declared.axes.Ends.{Ends}

abbrev pub bench_lower : Position
bench_lower = record { x = pos 0; y = pos 0; z = negsuc 79999; u = pos 0 }

abbrev pub bench_gantry : Ends
bench_gantry = record {
  lower = bench_lower;
  home = record { x = pos 0; y = pos 0; z = pos 0; u = pos 0 };
  upper = record { x = pos 2500000; y = pos 1250000; z = pos 0; u = pos 0 };
}

abbrev pub bench_beam : Ends
bench_beam = record {
  lower = bench_lower;
  home = record { x = pos 0; y = pos 0; z = pos 0; u = pos 2500000 };
  upper = record { x = pos 2500000; y = pos 1250000; z = pos 0; u = pos 2500000 };
}

abbrev pub bench_gap : ℤ
bench_gap = pos 90000
