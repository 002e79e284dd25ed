-- Arrays and tables of values beside the lists that definitions speak of.
use Rattle.std.proofs.Common.{◌≡◌, List, [], ◌∷◌, map, String, Global, string_bytes, Some, Ok, refl, ap, ◌∙◌}
use Rattle.std.specs.Map.{keys_of}
use Rattle.toml.specs.View.{items_view, members_view, view}
use Rattle.toml.specs.declared.value.Value.{Value}
use Rattle.otp_file.specs.Tables.{keys_in}
use Rattle.otp_file.specs.Tree.{children_at, children_in}
use Rattle.otp_file.specs.Values.{list_of}
use Rattle.toml.specs.Data.{Data, as_array}

-- the items of an array are its values, each as its data
pub list_of-view : (values : List Value) → list_of (items_view values) ≡ map view values
list_of-view [] = refl
list_of-view (value ∷ rest) = ap (λ others. view value ∷ others) (list_of-view rest)

-- the keys of a table are those of its map
pub keys_in-view : (entries : List (String Global × Value)) → keys_in (members_view entries) ≡ map string_bytes (keys_of entries)
keys_in-view [] = refl
keys_in-view (entry ∷ rest) = ap (λ others. string_bytes entry.0 ∷ others) (keys_in-view rest)

-- children that are an array are its values
pub children_seen : (value : Data) (values : List Value) → as_array value ≡ Some (items_view values) → children_at (Some value) ≡ Ok (map view values)
children_seen value values found = ap children_in found ∙ ap Ok (list_of-view values)
