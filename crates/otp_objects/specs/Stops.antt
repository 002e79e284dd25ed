-- How long the stop of a tree may take, as an object of JSON (own).
use Rattle.std.specs.Prelude.{◌≡◌, ℕ, List, [], ◌∷◌, ◌++◌, Option, Some, codes}
use Rattle.otp_file.specs.Trees.{Tree}
use Rattle.otp_json.specs.Values.{key_text, optional_member, text_member}
use Rattle.otp_shutdown.specs.Stops.{AreStops, ended_after, later}
use Rattle.otp_shutdown.specs.declared.stop.Stop.{Stop}
use Rattle.otp_objects.specs.Values.{bool_member, shutdown_member}

-- which child is stopped, how, and whether it stands for all dynamic ones of its supervisor
unfoldable pub child_members : Stop → List ℕ
child_members stop =
    text_member (codes "{") (codes "child") stop.name ++ shutdown_member stop.shutdown ++ bool_member (codes "all_at_once") stop.is_shared

-- when it is told to stop at the latest, and when it has ended: null behind a child that has no limit
unfoldable pub time_members : Option ℕ → Option ℕ → List ℕ
time_members from until = optional_member (codes ", ") (codes "from") from ++ optional_member (codes ", ") (codes "until") until

-- the object of a stop that begins at this time at the latest
unfoldable pub stop_text : Option ℕ → Stop → List ℕ
stop_text from stop = child_members stop ++ time_members from (later from stop.shutdown) ++ codes "}"

-- the object of a stop behind another
unfoldable pub next_stop : Option ℕ → Stop → List ℕ
next_stop from stop = codes ", " ++ stop_text from stop

abbrev pub next_stops : Option ℕ → List Stop → List ℕ
next_stops from [] = []
next_stops from (stop ∷ stops) = next_stop from stop ++ next_stops (later from stop.shutdown) stops

unfoldable pub stops_text : List Stop → List ℕ
stops_text [] = codes "[]"
stops_text (stop ∷ stops) = codes "[" ++ stop_text (Some 0) stop ++ next_stops (later (Some 0) stop.shutdown) stops ++ codes "]"

-- the whole: the file, how long its stop takes, which is null where a child has no limit, and the stops one after another
unfoldable pub stops_object : List ℕ → List Stop → List ℕ
stops_object name stops =
    text_member (codes "{") (codes "file") name
    ++ optional_member (codes ", ") (codes "longest") (ended_after (Some 0) stops)
    ++ key_text (codes ", ") (codes "stops") ++ stops_text stops ++ codes "}\n"

-- the longest stop of a tree was told
abbrev pub TellsStops : List ℕ → Tree → List ℕ → List ℕ → Type 0
TellsStops name tree before after = (stops : List Stop) × (AreStops tree stops × (after ≡ before ++ stops_object name stops))
