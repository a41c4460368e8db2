mod AfterDot
mod Valid
