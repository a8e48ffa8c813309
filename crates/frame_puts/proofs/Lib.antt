mod LaySteps
