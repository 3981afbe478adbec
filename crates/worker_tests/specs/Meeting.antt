-- The seats of a desk, each by its number.
use Rattle.std.specs.Prelude.{◌≡◌, ℕ, None}
use Rattle.stn_core.specs.declared.problem.Problem.{Problem}
use Rattle.book_lock.specs.Seats.{Place, Sight}

-- the seat with this number of the desk, where it has made so many seats; it holds no cube
pub record IsSeatOf (desk : Place) (problem : Problem) (number seats : ℕ) (seat : Sight) : Type 0 where
  pub desk_is : seat.desk ≡ desk.id
  pub problem_is : seat.view.begun.problem ≡ problem
  pub number_is : seat.view.number ≡ number
  pub seats_is : seat.view.seats ≡ seats
  pub none : seat.cube ≡ None
