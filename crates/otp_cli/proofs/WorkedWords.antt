-- What is found in some command lines, worked out by the definitions.
use Rattle.std.proofs.Common.{◌≡◌, List, [], ◌∷◌, Option, None, Some, true, false, codes, option_map, refl}
use Rattle.clap.proofs.OnLiterals.{clap_on_literals}
use Rattle.clap.specs.Words.{Text, first_of, one_of, subcommand_of, takes}
use Rattle.otp_cli.specs.Commands.{otp_app}

abbrev plain : List Text
plain = codes "otp" ∷ codes "run" ∷ codes "a.toml" ∷ []

abbrev full : List Text
full =
    codes "otp" ∷ codes "run" ∷ codes "--turns" ∷ codes "7" ∷ codes "a.toml" ∷ codes "--tree" ∷ codes "--schedulers=8" ∷ []

abbrev value_in : Text → List Text → Option (Option Text)
value_in id words = option_map (λ p. one_of id p.1) (subcommand_of otp_app words)

abbrev file_in : List Text → Option (Option Text)
file_in words = option_map (λ p. first_of (codes "FILE") p.1) (subcommand_of otp_app words)

plain_is_taken : takes otp_app plain ≡ true
unfolding clap_on_literals
plain_is_taken = refl

plain_file : file_in plain ≡ Some (Some (codes "a.toml"))
unfolding clap_on_literals
plain_file = refl

two_schedulers : value_in (codes "schedulers") plain ≡ Some (Some (codes "2"))
unfolding clap_on_literals
two_schedulers = refl

many_turns : value_in (codes "turns") plain ≡ Some (Some (codes "100000"))
unfolding clap_on_literals
many_turns = refl

no_picture : value_in (codes "tree") plain ≡ Some (Some (codes "false"))
unfolding clap_on_literals
no_picture = refl

full_file : file_in full ≡ Some (Some (codes "a.toml"))
unfolding clap_on_literals
full_file = refl

eight_schedulers : value_in (codes "schedulers") full ≡ Some (Some (codes "8"))
unfolding clap_on_literals
eight_schedulers = refl

a_picture : value_in (codes "tree") full ≡ Some (Some (codes "true"))
unfolding clap_on_literals
a_picture = refl

no_word_is_no_command : subcommand_of otp_app (codes "otp" ∷ []) ≡ None
unfolding clap_on_literals
no_word_is_no_command = refl

abbrev one_child : List Text
one_child = codes "otp" ∷ codes "limits" ∷ codes "--child=pool/a" ∷ codes "a.toml" ∷ codes "--each" ∷ []

of_the_child : value_in (codes "child") one_child ≡ Some (Some (codes "pool/a"))
unfolding clap_on_literals
of_the_child = refl

of_no_table : value_in (codes "table") one_child ≡ Some None
unfolding clap_on_literals
of_no_table = refl

abbrev a_suggestion : List Text
a_suggestion =
    codes "otp" ∷ codes "suggest" ∷ codes "a.toml" ∷ codes "--child" ∷ codes "db" ∷ codes "--every=5s" ∷ []

of_that_worker : value_in (codes "child") a_suggestion ≡ Some (Some (codes "db"))
unfolding clap_on_literals
of_that_worker = refl

every_five_seconds : value_in (codes "every") a_suggestion ≡ Some (Some (codes "5s"))
unfolding clap_on_literals
every_five_seconds = refl

a_worker_is_needed : takes otp_app (codes "otp" ∷ codes "suggest" ∷ codes "a.toml" ∷ codes "--every=5s" ∷ []) ≡ false
unfolding clap_on_literals
a_worker_is_needed = refl
