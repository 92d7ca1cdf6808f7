-- What a refusal tells: its number, and what it carries.
use Rattle.std.specs.Prelude.{ℕ, Some, None, Option}
use Rattle.model.specs.declared.ending.Failure.{Failure}

-- a place in a text, from 0, a parameter, from 1, or a line, from 1, with the cause
pub data Detail : Type 0 where
  nothing : Detail
  place : ℕ → Detail
  parameter : ℕ → Detail
  failure : Failure → Detail

pub record Told : Type 0 where
  pub number : ℕ
  pub detail : Detail

abbrev pub told : ℕ → Detail → Told
told n d = record { number = n; detail = d }

abbrev pub place_in : Detail → Option ℕ
place_in (place p) = Some p
place_in d = None

abbrev pub parameter_in : Detail → Option ℕ
parameter_in (parameter n) = Some n
parameter_in d = None

abbrev pub failure_in : Detail → Option Failure
failure_in (failure f) = Some f
failure_in d = None
