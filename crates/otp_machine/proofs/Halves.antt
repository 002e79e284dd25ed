use Rattle.std.proofs.Common.{◌≡◌, List, ◌++◌, Option, ap, sym, ◌∙◌, append_assoc}
use Rattle.std.specs.List.{filter_map}
use Rattle.std.proofs.lemmas.List.Elements.{filter_map-append}

-- what two halves give one after another, the whole gives
pub joined : {X Y : Type 0} (h : X → Option Y) (old first second : List Y) (front back all : List X) →
    first ≡ old ++ filter_map h front → second ≡ first ++ filter_map h back → front ++ back ≡ all → second ≡ old ++ filter_map h all
joined h old first second front back all e k w =
    k ∙ ap (λ r. r ++ filter_map h back) e ∙ append_assoc old (filter_map h front) (filter_map h back)
    ∙ ap (λ x. old ++ x) (sym (filter_map-append h front back) ∙ ap (filter_map h) w)
