-- The limits that are told (own).
use Rattle.std.specs.Prelude.{ℕ, ◌==◌, if◌then◌else◌}
use Rattle.otp_reason.specs.declared.name.TheConstants.{NAME_SIZE}
use Rattle.otp_reason.specs.declared.text.TheConstants.{TEXT_SIZE}
use Rattle.otp_spec.specs.declared.limits.TheConstants.{MAX_CHILDREN, MAX_READING, MAX_TABLES}
use Rattle.otp_driver.specs.declared.driven.limits.TheConstants.{KEPT_EVENTS}
use Rattle.otp_c.specs.declared.shapes.structs.TheConstants.{FAULT_SIZE}

-- the limit of a number; 0 where there is none
abbrev pub limit_of : ℕ → ℕ
limit_of kind =
    if kind == 1 then NAME_SIZE
    else if kind == 2 then TEXT_SIZE
    else if kind == 3 then FAULT_SIZE
    else if kind == 4 then MAX_CHILDREN
    else if kind == 5 then MAX_TABLES
    else if kind == 6 then MAX_READING
    else if kind == 7 then KEPT_EVENTS
    else 0
