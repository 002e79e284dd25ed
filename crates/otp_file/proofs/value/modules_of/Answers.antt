use Rattle.std.proofs.lemmas.List.Folds.{list_all-map}
use Rattle.toml.specs.View.{view}
use Rattle.otp_file.proofs.Lists.{list_of-view}
use Rattle.otp_file.specs.Values.{is_text}
use Rattle.otp_file.proofs.value.modules_of.Goals as goal

pub returns-then-not-are_texts : goal.returns-then-not-are_texts
returns-then-not-are_texts c =
    rw (list_of-view c.args.values.now, list_all-map is_text view c.args.values.now, ← c.are_texts.ensures, c.if-not-are_texts.true)

pub returns : goal.returns
returns c =
    rw (list_of-view c.args.values.now, list_all-map is_text view c.args.values.now, ← c.are_texts.ensures, c.if-not-are_texts.false) c.names_in.ensures
