use Rattle.drill.proofs.calls.Core.call.Goals as goal

pub returns-in-Put-clause-answers : goal.returns-in-Put-clause-answers
returns-in-Put-clause-answers g c = rw c.in-Put.is c.command.ensures.answers

pub returns-in-Secrets-clause-answers : goal.returns-in-Secrets-clause-answers
returns-in-Secrets-clause-answers g c = rw c.in-Secrets.is c.command-in-Secrets.ensures.answers
