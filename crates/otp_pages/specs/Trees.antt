-- A tree as a page: supervisors and their children in start order, with their keys (own).
use Rattle.std.specs.Prelude.{◌≡◌, ℕ, ◌+◌, ◌==◌, Bool, true, false, List, [], ◌∷◌, ◌++◌, Option, Some, None, codes, decimal, if◌then◌else◌}
use Rattle.otp_file.specs.Trees.{Tree}
use Rattle.otp_file.specs.declared.limits.TheConstants.{MAX_DEPTH}
use Rattle.otp_pages.specs.Frame.{foot_text, head_text}
use Rattle.otp_pages.specs.Markup.{element}
use Rattle.otp_file.specs.Nested.{IsPiece, Written, sub_at}
use Rattle.otp_reason.specs.Names.{name_bytes}
use Rattle.otp_spec.specs.Words.{restart_word, strategy_word, type_word}
use Rattle.otp_spec.specs.declared.child.ChildSpec.{ChildSpec}
use Rattle.otp_spec.specs.declared.child.ChildType.{ChildType}
use Rattle.otp_spec.specs.declared.child.Restart.{Restart}
use Rattle.otp_spec.specs.declared.child.Shutdown.{Shutdown}
use Rattle.otp_spec.specs.declared.child.Shutdown.TheVariants.{BrutalKill, Milliseconds, Infinity}
use Rattle.otp_spec.specs.declared.flags.AutoShutdown.{AutoShutdown}
use Rattle.otp_spec.specs.declared.flags.AutoShutdown.TheVariants.{Never, AnySignificant, AllSignificant}
use Rattle.otp_spec.specs.declared.flags.SupFlags.{SupFlags}

-- when a child is restarted
unfoldable pub restart_tag : Restart → List ℕ
restart_tag restart = codes "<span class=\"tag " ++ restart_word restart ++ codes "\">" ++ restart_word restart ++ codes "</span>"

-- that it is significant, if it is
unfoldable pub significant_tag : Bool → List ℕ
significant_tag true = codes "<span class=\"tag significant\">significant</span>"
significant_tag false = []

-- what it is
unfoldable pub kind_tag : ChildType → List ℕ
kind_tag kind = codes "<span class=\"tag\">" ++ type_word kind ++ codes "</span>"

-- how long it may take to end
unfoldable pub shutdown_words : Shutdown → List ℕ
shutdown_words BrutalKill = codes "brutal_kill"
shutdown_words (Milliseconds time) = decimal time ++ codes " ms"
shutdown_words Infinity = codes "infinity"

unfoldable pub shutdown_tag : Shutdown → List ℕ
shutdown_tag shutdown = codes "<span class=\"tag\">shutdown " ++ shutdown_words shutdown ++ codes "</span>"

unfoldable pub tags_html : ChildSpec → List ℕ
tags_html spec = restart_tag spec.restart ++ significant_tag spec.significant ++ kind_tag spec.kind ++ shutdown_tag spec.shutdown

-- the module of its start function
unfoldable pub start_html : ChildSpec → List ℕ
start_html spec = element (codes "<small>start <code>") (name_bytes spec.start) (codes "</code></small>")

-- its line
unfoldable pub child_head : ChildSpec → List ℕ
child_head spec = element (codes "<li><code>") (name_bytes spec.id) (codes "</code>") ++ tags_html spec ++ start_html spec

-- the supervisor that it is, if its tree stands in the file
unfoldable pub sub_html : Option (List ℕ) → List ℕ
sub_html None = []
sub_html (Some piece) = codes "\n" ++ piece

unfoldable pub child_html : ChildSpec → Option (List ℕ) → List ℕ
child_html spec sub = child_head spec ++ sub_html sub ++ codes "</li>\n"

-- these children, of which the first stands at this place
abbrev pub children_html : List ℕ → List (List ℕ) → ℕ → List ChildSpec → List ℕ
children_html nested each place [] = []
children_html nested each place (spec ∷ specs) = child_html spec (sub_at place nested each) ++ children_html nested each (place + 1) specs

-- how many restarts a supervisor bears, and in which time
unfoldable pub restarts_words : ℕ → List ℕ
restarts_words count = if count == 1 then codes " restart in " else codes " restarts in "

unfoldable pub limit_words : SupFlags → List ℕ
limit_words flags = decimal flags.intensity ++ restarts_words flags.intensity ++ decimal flags.period ++ codes " s"

-- what an automatic shutdown comes from
unfoldable pub auto_words : AutoShutdown → List ℕ
auto_words Never = []
auto_words AnySignificant = codes ", ends with any significant child"
auto_words AllSignificant = codes ", ends with the last significant child"

-- the line of a supervisor
unfoldable pub flags_html : SupFlags → List ℕ
flags_html flags =
    codes "<p class=\"flags\"><b>" ++ strategy_word flags.strategy ++ codes "</b> " ++ limit_words flags ++ auto_words flags.auto_shutdown ++ codes "</p>\n"

-- a supervisor with these children, of which those at these places have trees of which this is said
unfoldable pub supervisor_html : SupFlags → List ChildSpec → List ℕ → List (List ℕ) → List ℕ
supervisor_html flags specs nested each = flags_html flags ++ codes "<ul>\n" ++ children_html nested each 0 specs ++ codes "</ul>\n"

-- wherever it stands
abbrev pub html_at : Written
html_at path flags specs nested each = supervisor_html flags specs nested each

unfoldable pub tree_legend : List ℕ
tree_legend = codes "<p class=\"legend\">Children stand in start order, and are stopped in reverse. A supervisor with more restarts in its time than it may have gives up.</p>\n<div class=\"tree\">\n"

-- the page of which this is the tree, and this the name of its file
unfoldable pub tree_page : List ℕ → List ℕ → List ℕ
tree_page name piece = head_text (codes "Supervision tree of") name ++ tree_legend ++ piece ++ codes "</div>\n" ++ foot_text

-- a tree is told as a page
abbrev pub TellsTree : List ℕ → Tree → List ℕ → Type 0
TellsTree name tree page = (piece : List ℕ) × (IsPiece html_at MAX_DEPTH [] tree piece × (page ≡ tree_page name piece))
