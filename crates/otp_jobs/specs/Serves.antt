-- What comes of a tree that is served for a time (own).
use Rattle.std.specs.Prelude.{ℕ, List, map}
use Rattle.otp_jobs.specs.Reports.{report_text}
use Rattle.otp_jobs.specs.Runs.{line_of}
use Rattle.otp_jobs.specs.declared.body.Calm.{Calm}
use Rattle.otp_jobs.specs.declared.serving.patient.PatientJob.{PatientJob}
use Rattle.otp_close.specs.declared.report.report.Report.{Report}

-- what is printed of it: a line for each supervisor, and how many processes are left
abbrev pub served_text : Report PatientJob Calm → List ℕ
served_text report = report_text (map line_of report.tables.items) report.live
