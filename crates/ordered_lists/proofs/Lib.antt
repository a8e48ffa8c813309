mod SearchSteps
