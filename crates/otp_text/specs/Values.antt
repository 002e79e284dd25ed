-- The printed text of each value (own).
use Rattle.std.specs.Prelude.{ℕ, Bool, true, false, List, [], ◌++◌, Option, Some, None, unwrap_or, codes, decimal}
use Rattle.otp_reason.specs.declared.name.Name.{Name}
use Rattle.otp_reason.specs.declared.reason.Reason.{Reason}
use Rattle.otp_reason.specs.declared.reason.Reason.TheVariants as reason
use Rattle.otp_reason.specs.Names.{name_bytes}
use Rattle.otp_reason.specs.Texts.{text_bytes}
use Rattle.otp_spec.specs.declared.child.Modules.{Modules}
use Rattle.otp_spec.specs.declared.child.Modules.TheVariants as modules
use Rattle.otp_spec.specs.declared.child.Shutdown.{Shutdown}
use Rattle.otp_spec.specs.declared.child.Shutdown.TheVariants.{Milliseconds}
use Rattle.otp_spec.specs.Words.{modules_word, shutdown_word}

-- a reason; the term of one that has a term stands after a colon
unfoldable pub reason_text : Reason → List ℕ
reason_text reason.Normal = codes "normal"
reason_text reason.Shutdown = codes "shutdown"
reason_text (reason.ShutdownWith text) = codes "shutdown:" ++ text_bytes text
reason_text reason.Kill = codes "kill"
reason_text reason.Killed = codes "killed"
reason_text reason.NoProc = codes "noproc"
reason_text (reason.Error text) = codes "error:" ++ text_bytes text

-- a process number
unfoldable pub process_text : ℕ → List ℕ
process_text number = codes "#" ++ decimal number

-- a child's name in an order: its id, or a dash for a dynamic child
unfoldable pub child_name_text : Option Name → List ℕ
child_name_text None = codes "-"
child_name_text (Some id) = name_bytes id

-- how a child is stopped: a word, or milliseconds
unfoldable pub shutdown_text : Shutdown → List ℕ
shutdown_text (Milliseconds time) = decimal time
shutdown_text shutdown = unwrap_or (shutdown_word shutdown) []

-- the names of modules, joined by `+`; a dash where there is none
unfoldable pub modules_text : Modules → List ℕ
modules_text modules.Dynamic = unwrap_or (modules_word modules.Dynamic) []
modules_text modules.None = codes "-"
modules_text (modules.One a) = name_bytes a
modules_text (modules.Two a b) = name_bytes a ++ codes "+" ++ name_bytes b
modules_text (modules.Three a b c) = name_bytes a ++ codes "+" ++ name_bytes b ++ codes "+" ++ name_bytes c
modules_text (modules.Four a b c d) =
    name_bytes a ++ codes "+" ++ name_bytes b ++ codes "+" ++ name_bytes c ++ codes "+" ++ name_bytes d

-- a truth value
unfoldable pub bool_text : Bool → List ℕ
bool_text true = codes "true"
bool_text false = codes "false"
