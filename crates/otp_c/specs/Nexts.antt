-- What is handed out when the next order is asked for (own).
use Rattle.std.specs.Prelude.{◌≡◌, ℕ, Option, Some, None, Result, Ok, Err}
use Rattle.otp_rules.specs.declared.event.Effect.{Effect}
use Rattle.otp_driver.specs.declared.driven.fault.DriveFault.{DriveFault}
use Rattle.otp_driver.specs.declared.order.Order.{Order}
use Rattle.otp_driver.specs.declared.route.Route.{Route}
use Rattle.otp_driver.specs.declared.session.Session.{Session}
use Rattle.otp_driver.specs.Driven.{Driven, IsNext}
use Rattle.otp_driver.specs.Members.{state_in}
use Rattle.otp_driver.specs.Orders.{what_of}
use Rattle.otp_driver.specs.Sessions.{NextTold}
use Rattle.otp_c.specs.declared.shapes.status.TheConstants.{OTP_NONE, OTP_OK}
use Rattle.otp_c.specs.declared.shapes.structs.COrder.{COrder}
use Rattle.otp_c.specs.Orders.{ShowsOrder}
use Rattle.otp_c.specs.Statuses.{status_of}

-- the status says which answer it is, and the struct is written where it is an order
abbrev pub SaysNext : Result (Option Order) DriveFault → ℕ → COrder → COrder → Type 0
SaysNext (Ok (Some order)) status old new = (status ≡ OTP_OK) × ShowsOrder order new
SaysNext (Ok None) status old new = (status ≡ OTP_NONE) × (new ≡ old)
SaysNext (Err fault) status old new = (status ≡ status_of fault) × (new ≡ old)

-- the next order of the tree was taken, and said
abbrev pub HandsOut : ℕ → COrder → COrder → Session → Session → Type 0
HandsOut status old new before after = (answer : Result (Option Order) DriveFault) × NextTold answer before after × SaysNext answer status old new

-- the struct says the order that is next at this place
abbrev pub WritesNext : Driven → ℕ → COrder → Type 0
WritesNext t place out =
    (effect : Effect) (route : Route) (n : IsNext t place effect route)
    → ShowsOrder (record { supervisor = place; what = what_of (state_in n.member).rows effect }) out
