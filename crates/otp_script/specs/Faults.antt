-- What is told of a line that can't be read: what is wrong, and what would be read (own).
use Rattle.std.specs.Prelude.{ℕ, List, codes}
use Rattle.otp_script.specs.declared.fault.ScriptFault.{ScriptFault}
use Rattle.otp_script.specs.declared.fault.ScriptFault.TheVariants as fault
use Rattle.otp_text.specs.Letters.{letter_text}
use Rattle.otp_script.specs.declared.fault.Word.{Word}
use Rattle.otp_script.specs.declared.fault.Word.TheVariants as word

-- whether this word was meant
unfoldable pub meant_text : Word → List ℕ
meant_text word.At = codes "unknown word: did you mean at?"
meant_text word.Every = codes "unknown word: did you mean every?"
meant_text word.Crash = codes "unknown word: did you mean crash?"
meant_text word.Exit = codes "unknown word: did you mean exit?"
meant_text word.Fail = codes "unknown word: did you mean fail?"
meant_text word.Ignore = codes "unknown word: did you mean ignore?"
meant_text word.Init = codes "unknown word: did you mean init?"
meant_text word.Hang = codes "unknown word: did you mean hang?"
meant_text word.Slow = codes "unknown word: did you mean slow?"
meant_text word.Expect = codes "unknown word: did you mean expect?"
meant_text word.Stop = codes "unknown word: did you mean stop?"
meant_text word.Start = codes "unknown word: did you mean start?"
meant_text word.Restart = codes "unknown word: did you mean restart?"
meant_text word.Delete = codes "unknown word: did you mean delete?"
meant_text word.Terminate = codes "unknown word: did you mean terminate?"
meant_text word.Get = codes "unknown word: did you mean get?"
meant_text word.Which = codes "unknown word: did you mean which?"
meant_text word.Count = codes "unknown word: did you mean count?"
meant_text word.Help = codes "unknown word: did you mean help?"
meant_text word.Quit = codes "unknown word: did you mean quit?"
meant_text word.Status = codes "unknown word: did you mean status?"
meant_text word.Undo = codes "unknown word: did you mean undo?"
meant_text word.Reset = codes "unknown word: did you mean reset?"

-- what would be read in the place of what stands there
unfoldable pub fault_text : ScriptFault → List ℕ
fault_text fault.UnknownWord = codes "unknown word; otp help script lists the words, and help does at the prompt"
fault_text (fault.Misspelt word) = meant_text word
fault_text (fault.Alike letter) = letter_text letter
fault_text fault.StrangeLetter = codes "unknown word: it has a letter outside of ASCII"
fault_text fault.NotText = codes "not UTF-8: save the file as UTF-8"
fault_text fault.OtherComment = codes "unknown word; a comment begins with #"
fault_text fault.TimeAlone = codes "unknown word; a time is written at 5s, or +5s for so long after the line before"
fault_text fault.LineOfLog = codes "unknown word; this looks like a line of a log, which otp replay FILE LOG plays"
fault_text fault.WordBehind = codes "unknown word; what happens comes first, as in crash db, or behind a path, as in pool/ stop"
fault_text fault.StopAlone = codes "stop stands alone; terminate ID stops a child, and PATH/ stop the supervisor there"
fault_text fault.BadTime = codes "not a time: write one like 10s, 1.5s, 500ms, 2m, 1h, or 500 (milliseconds)"
fault_text fault.LargeTime = codes "too large a time: write at most 1000000000000s"
fault_text fault.BadTimes = codes "behind every TIME stands how often, 1 to 10000: every 2s 20 times crash ID"
fault_text fault.MissingChild = codes "a child is missing: write its id, or a process number like #3"
fault_text fault.BadChild = codes "not a child: write its id, or a process number like #3, and a space behind it"
fault_text fault.SignedChild = codes "not a child: no : or , stands behind it; a reason follows behind a space, as in crash db error:TEXT"
fault_text fault.MissingName = codes "a child's id is missing: write 1 to 32 bytes of a-z A-Z 0-9 _ - ."
fault_text fault.BadName = codes "not a child's id: write 1 to 32 bytes of a-z A-Z 0-9 _ - ."
fault_text fault.MissingReason = codes "a reason is missing: write one like normal, shutdown, kill or error:TEXT"
fault_text fault.BadReason = codes "not a reason: write normal, shutdown, shutdown:TEXT, kill, killed, noproc or error:TEXT"
fault_text fault.LongReason = codes "too long a reason: behind error: or shutdown: stand 1 to 64 bytes"
fault_text fault.BadExpected = codes "not expected so: write expect up, expect end, both also with ID, or expect restarts ID N"
fault_text fault.BadCall = codes "other words stand behind this call; write which, count, get ID, restart ID, terminate ID, delete ID or start ID START RESTART SIGNIFICANT SHUTDOWN TYPE"
fault_text fault.BadStart = codes "start adds a child: start ID START RESTART SIGNIFICANT SHUTDOWN TYPE; restart ID starts one that has ended"
fault_text fault.TooManyWords = codes "more words than the line may have; a comment begins with # after a blank"
fault_text fault.TooLong = codes "more than 512 bytes"
