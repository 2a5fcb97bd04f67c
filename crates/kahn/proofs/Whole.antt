-- Demand 3, whole: the statements of specs/Theorem.antt, from what holds of one board and of two (Theorem) and of two files that are alike (Files).
-- Assumes nothing.
use native.Mathlib.Omega.{arith}
use Rattle.lane_file.proofs.RoundTrip.{written_read}
use Rattle.kahn.specs.Theorem.{OneBoardHolds, AnySpareFits}
use Rattle.kahn.proofs.Files.{alike_networks}
use Rattle.kahn.proofs.Theorem.{sends_prefix, agrees, agree_with}

-- (a) and (b): a board of any accepted file, against the plain order
pub one_board_holds : OneBoardHolds
one_board_holds f n r cells many input steps fair =
    let pass = (written_read f n r.0 r.1).0 in
    record {
      sends = sends_prefix n pass cells many input steps fair;
      rests = λ rest rounds enough. agrees n pass cells many input steps fair rest rounds (omega arith);
    }

-- (a) and (b) of each, and (c): "Then any spare fits any lane."
pub any_spare_fits : AnySpareFits
any_spare_fits f₁ f₂ n₁ n₂ r₁ r₂ alike cells₁ cells₂ many₁ many₂ input steps₁ steps₂ fair₁ fair₂ =
    let same = alike_networks f₁ f₂ n₁ n₂ r₁.1 r₂.1 alike in
    record {
      same = same;
      first = one_board_holds f₁ n₁ r₁ cells₁ many₁ input steps₁ fair₁;
      second = one_board_holds f₂ n₂ r₂ cells₂ many₂ input steps₂ fair₂;
      agree = agree_with n₁ n₂ (written_read f₁ n₁ r₁.0 r₁.1).0 (written_read f₂ n₂ r₂.0 r₂.1).0 same input
          cells₁ cells₂ many₁ many₂ steps₁ steps₂ fair₁ fair₂;
    }
