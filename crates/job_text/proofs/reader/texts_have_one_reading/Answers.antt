use Rattle.job_text.proofs.Completeness.{each_has_one}
use Rattle.job_text.proofs.OneReading.{one_job, one_fault, job_or_fault}
use Rattle.job_text.proofs.reader.texts_have_one_reading.Goals as goal

pub returns-clause-one_job : goal.returns-clause-one_job
returns-clause-one_job c = one_job

pub returns-clause-one_fault : goal.returns-clause-one_fault
returns-clause-one_fault c = one_fault

pub returns-clause-job_or_fault : goal.returns-clause-job_or_fault
returns-clause-job_or_fault c = job_or_fault

pub returns-clause-each_has_one : goal.returns-clause-each_has_one
returns-clause-each_has_one c = each_has_one
