-- A tree file: bytes that are a TOML document, and what its tables say.
use Rattle.std.specs.Prelude.{◌≡◌, ℕ, List, Some, Result, Ok, Err, IsUtf8}
use Rattle.otp_file.specs.declared.fault.TableFault.{TableFault}
use Rattle.otp_file.specs.declared.fault.TreeFault.{TreeFault}
use Rattle.otp_file.specs.declared.fault.TreeFault.TheVariants.{OutOfMemory, NotToml}
use Rattle.otp_file.specs.Trees.{Tree, tables_of, document_said}
use Rattle.toml.specs.Data.{Members}
use Rattle.toml.specs.Parse.{parse_document}

-- the bytes are a text, and the text is a document with these members (own)
abbrev pub IsDocument : List ℕ → Members → Type 0
IsDocument bytes document = IsUtf8 bytes × (parse_document bytes ≡ Some document)

-- the bytes are a document (own)
abbrev pub IsToml : List ℕ → Type 0
IsToml bytes = (document : Members) × IsDocument bytes document

-- the bytes are a document that says this tree, or whose first fault in the order of the walk is this one, of the table
-- of this number (own)
abbrev pub AnswersAt : Members → Result Tree TableFault → Type 0
AnswersAt document (Ok tree) = document_said document ≡ Ok (tables_of tree)
AnswersAt document (Err why) = document_said document ≡ Err why

abbrev pub SaysAt : List ℕ → Result Tree TableFault → Type 0
SaysAt bytes answer = (document : Members) × (IsDocument bytes document × AnswersAt document answer)

-- what the members of a tree file give, without the table's number (own)
abbrev pub Answers : Members → Result Tree TreeFault → Type 0
Answers document (Ok tree) = document_said document ≡ Ok (tables_of tree)
Answers document (Err fault) = (table : ℕ) × (document_said document ≡ Err (record { table = table; fault = fault }))

abbrev pub Says : List ℕ → Result Tree TreeFault → Type 0
Says bytes answer = (document : Members) × (IsDocument bytes document × Answers document answer)

-- a fault in what a document says, and neither want of memory nor a text that is no document (own)
abbrev pub IsOfTree : TreeFault → Type 0
IsOfTree fault = (¬ (fault ≡ OutOfMemory)) × (¬ (fault ≡ NotToml))
