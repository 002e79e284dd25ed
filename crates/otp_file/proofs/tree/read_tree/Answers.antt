use Rattle.otp_file.proofs.tree.read_tree.Goals as goal

pub returns-in-Err-clause-first_fault : goal.returns-in-Err-clause-first_fault
returns-in-Err-clause-first_fault c = λ of_tree.
    let found = c.in-Err.ensures.first_fault of_tree in
    (found.0, (found.1.0, (c.in-Err.why.table, found.1.1)))
