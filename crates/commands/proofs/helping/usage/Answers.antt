-- `helping::usage` meets its contract: the text of each command, by computing.
use Rattle.sheets.specs.Cases.{bytes}
use Rattle.commands.specs.Help.{lines, usage_text}
use Rattle.commands.proofs.Texts.{whole}
use Rattle.commands.proofs.helping.usage.Goals as goal

pub returns-in-Split : goal.returns-in-Split
unfolding usage_text lines bytes
returns-in-Split c =
    let p = whole c.put_bytes.ensures in
    rw c.in-Split.is (record { answer = p.0; buffer = p.1 })

pub returns-in-Lookup : goal.returns-in-Lookup
unfolding usage_text lines bytes
returns-in-Lookup c =
    let p = whole c.put_bytes-in-Lookup.ensures in
    rw c.in-Lookup.is (record { answer = p.0; buffer = p.1 })

pub returns-in-Churn : goal.returns-in-Churn
unfolding usage_text lines bytes
returns-in-Churn c =
    let p = whole c.put_bytes-in-Churn.ensures in
    rw c.in-Churn.is (record { answer = p.0; buffer = p.1 })

pub returns-in-Update : goal.returns-in-Update
unfolding usage_text lines bytes
returns-in-Update c =
    let p = whole c.put_bytes-in-Update.ensures in
    rw c.in-Update.is (record { answer = p.0; buffer = p.1 })

pub returns-in-Stages : goal.returns-in-Stages
unfolding usage_text lines bytes
returns-in-Stages c =
    let p = whole c.put_bytes-in-Stages.ensures in
    rw c.in-Stages.is (record { answer = p.0; buffer = p.1 })

pub returns-in-Stage : goal.returns-in-Stage
unfolding usage_text lines bytes
returns-in-Stage c =
    let p = whole c.put_bytes-in-Stage.ensures in
    rw c.in-Stage.is (record { answer = p.0; buffer = p.1 })

pub returns-in-Gauge : goal.returns-in-Gauge
unfolding usage_text lines bytes
returns-in-Gauge c =
    let p = whole c.put_bytes-in-Gauge.ensures in
    rw c.in-Gauge.is (record { answer = p.0; buffer = p.1 })

pub returns-in-Help : goal.returns-in-Help
unfolding usage_text lines bytes
returns-in-Help c =
    let p = whole c.put_bytes-in-Help.ensures in
    rw c.in-Help.is (record { answer = p.0; buffer = p.1 })

pub returns-in-Unknown : goal.returns-in-Unknown
unfolding usage_text lines bytes
returns-in-Unknown c =
    let p = whole c.put_bytes-in-Unknown.ensures in
    rw c.in-Unknown.is (record { answer = p.0; buffer = p.1 })
